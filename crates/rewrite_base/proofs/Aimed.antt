-- What a step is about to do is what its definition says, from what stands at its target's place.
use Rattle.std.proofs.Common.{◌≡◌, ◌||◌, ℕ, Bool, true, false, List, [], ◌∷◌, map, Option, Some, None, refl, sym, ap, subst, ◌∙◌}
use Rattle.std.specs.Prelude.{is_some, not, IsSome, option_and_then, slice_get, if◌then◌else◌}
use Rattle.mlir_ir.specs.Count.{find_in}
use Rattle.mlir_ir.specs.Shape.{FuncShape}
use Rattle.mlir_ir.specs.declared.tree.Module.{Module}
use Rattle.mlir_ir.specs.declared.tree.Op.{Op}
use Rattle.mlir_ir.specs.declared.tree.OpId.{OpId}
use Rattle.mlir_ir.specs.declared.tree.OpKind.{OpKind, Generic}
use Rattle.mlir_verify.specs.Place.{Types, type_among}
use Rattle.mlir_verify.specs.Rules.{IsVerified}
use Rattle.verified_runs.specs.Edits.{Edit, Step, anew}
use Rattle.verified_runs.specs.Fresh.{fresh_value, fresh_op}
use Rattle.verified_runs.specs.Forms.{Structured, kind_of, structured_of, is_generic}
use Rattle.structured_steps.specs.declared.rule.StepRule.{StepRule}
use Rattle.structured_steps.specs.declared.rule.StepRule.TheVariants.{WrongKind, Permutation, ReductionOrder}
use Rattle.structured_steps.specs.Generalize.{generalizes, generalize}
use Rattle.structured_steps.specs.Interchange.{as_generic, breaks_permutation, breaks_reduction_order, interchanged, interchanges, interchange}
use Rattle.structured_steps.specs.Steps.{Rules, formed, broken_of, broken_among, rules_of_generalize, generalized, broken_order, rules_of_interchange, interchanged_in}
use Rattle.mlir_edits.specs.declared.place.Place.{Place}
use Rattle.mlir_edits.specs.Places.{place_of, op_at, scope_before}
use Rattle.mlir_edits.specs.Replaced.{replaced_at}
use Rattle.mlir_edits.proofs.Unique.{ids_are_new}
use Rattle.mlir_edits.proofs.Formed.{formed_some, formed_none}
use Rattle.mlir_edits.proofs.Found.{found_there}
use Rattle.rewrite_base.specs.declared.aim.Aim.TheVariants as A
use Rattle.rewrite_base.specs.declared.shape.Shape.{Shape}
use Rattle.rewrite_base.specs.declared.shape.Shape.TheVariants as S
use Rattle.rewrite_base.specs.declared.turn.Turn.TheVariants as T
use Rattle.rewrite_base.specs.Aims.{AimsAt, AimVerifies}
use Rattle.rewrite_base.specs.Answers.{new_op, generalized_op, made_by_generalize, made_by_interchange}
use Rattle.rewrite_base.specs.Exchanged.{exchanged, exchanged_op}
use Rattle.rewrite_base.specs.Shapes.{Shapes, StructuredFits}
use Rattle.rewrite_base.specs.Turns.{Turns}
use Rattle.rewrite_base.proofs.Rules.{broken_at}
use Rattle.rewrite_base.proofs.Fitting.{exchanged_fits}
use Rattle.rewrite_base.proofs.Verifies.{generalized_verifies, interchanged_verifies}

generic_has_form : (t : Types) (kind : OpKind) → is_generic kind ≡ true → is_some (structured_of t kind) ≡ true
unfolding structured_of
generic_has_form t (Generic maps iterators ins outs captured payload) h = refl
generic_has_form t kind h = absurd cc

module _ (m : Module) (v : IsVerified m) (i : OpId) (p : Place) (f : FuncShape) (o : Op) (placed_there : place_of i m.funcs ≡ Some p)
    (in_func : slice_get m.funcs p.func ≡ Some f) (there : op_at p m.funcs ≡ Some o) where
  in_body : slice_get f.body p.op ≡ Some o
  in_body = ap (option_and_then (λ (g : FuncShape). slice_get g.body p.op)) (sym in_func) ∙ there

  breaks : (rules : Rules) → broken_of i rules m ≡ rules (scope_before f p.op) o
  breaks rules = broken_at i rules m.funcs p f o (ids_are_new m v) placed_there in_func in_body

  found : find_in i m.funcs ≡ Some o
  found = found_there m i p v placed_there ∙ there

  is_there : IsSome (op_at p m.funcs)
  is_there = ap is_some there

  forms : (step : Step) (kind : OpKind) → step (scope_before f p.op) o ≡ Some (anew (fresh_op m.funcs) (fresh_value m.funcs) kind o) → formed i step m ≡ exchanged p kind m
  forms step kind h =
      let e = anew (fresh_op m.funcs) (fresh_value m.funcs) kind o in
      (λ j. record { funcs = formed_some i m.funcs p f o (ids_are_new m v) placed_there in_func in_body step e h j })
      ∙ ap (λ (found : Option Op). exchanged_op found p kind m) (sym there)

  stands : (step : Step) → step (scope_before f p.op) o ≡ None → formed i step m ≡ m
  stands step h = λ j. record { funcs = formed_none i m.funcs p f o (ids_are_new m v) placed_there in_func in_body step h j }

  -- GENERALIZE
  abbrev form : Option Structured
  form = structured_of (type_among (scope_before f p.op)) o.kind

  generalizing : Step
  generalizing = generalize (fresh_op m.funcs) (fresh_value m.funcs)

  pub stays_generic : Shapes (is_generic o.kind) form S.Stays → AimsAt rules_of_generalize i m (generalized i m) (made_by_generalize i m) A.Stays
  stays_generic h = (
    breaks rules_of_generalize ∙ (λ j. if not (generic_has_form (type_among (scope_before f p.op)) o.kind h j) then Some WrongKind else None),
    stands (generalize (fresh_op m.funcs) (fresh_value m.funcs)) (λ j. generalizes (fresh_op m.funcs) (fresh_value m.funcs) (h j) form o),
    ap (generalized_op i m) found ∙ (λ j. (if h j then i else new_op m) ∷ []),
  )

  pub wrong_generic : Shapes (is_generic o.kind) form S.Wrong → AimsAt rules_of_generalize i m (generalized i m) (made_by_generalize i m) (A.Breaks WrongKind)
  wrong_generic h = breaks rules_of_generalize ∙ (λ j. if not (is_some (h.1 j)) then Some WrongKind else None)

  generic_step : (g : Structured) → is_generic o.kind ≡ false → form ≡ Some g → generalize (fresh_op m.funcs) (fresh_value m.funcs) (scope_before f p.op) o ≡ Some (anew (fresh_op m.funcs) (fresh_value m.funcs) (kind_of g) o)
  generic_step g named q = λ j. generalizes (fresh_op m.funcs) (fresh_value m.funcs) (named j) (q j) o

  pub becomes_generic : (kind : OpKind) → Shapes (is_generic o.kind) form (S.Becomes kind) →
      AimsAt rules_of_generalize i m (generalized i m) (made_by_generalize i m) (A.Becomes p kind)
  becomes_generic kind h = by form refl h where
    by : (g : Option Structured) → form ≡ g → Shapes (is_generic o.kind) g (S.Becomes kind) → AimsAt rules_of_generalize i m (generalized i m) (made_by_generalize i m) (A.Becomes p kind)
    by None q s = absurd s
    by (Some g) q s = (
      breaks rules_of_generalize ∙ (λ j. if not (is_some (q j)) then Some WrongKind else None),
      is_there,
      forms (generalize (fresh_op m.funcs) (fresh_value m.funcs)) (kind_of g) (generic_step g s.0 q) ∙ ap (λ k. exchanged p k m) (sym s.1),
      ap (generalized_op i m) found ∙ (λ j. (if s.0 j then i else new_op m) ∷ []),
    )

  pub generalized_there : (kind : OpKind) → Shapes (is_generic o.kind) form (S.Becomes kind) → AimVerifies m (A.Becomes p kind)
  generalized_there kind h = let a = becomes_generic kind h in (is_there, subst IsVerified a.2 (generalized_verifies m i v))

  pub generic_fits : Shapes (is_generic o.kind) form S.Unfit → ⊥
  generic_fits h = by form refl h where
    by : (g : Option Structured) → form ≡ g → Shapes (is_generic o.kind) g S.Unfit → ⊥
    by None q s = s
    by (Some g) q s =
        s.1 (exchanged_fits m p g f o in_func in_body
        (subst IsVerified (forms (generalize (fresh_op m.funcs) (fresh_value m.funcs)) (kind_of g) (generic_step g s.0 q) ∙ ap (λ (found : Option Op). exchanged_op found p (kind_of g) m) there)
        (generalized_verifies m i v)))

  -- INTERCHANGE
  module _ (order : List ℕ) where
    pub breaks_order : (rule : StepRule) → Turns order (as_generic o.kind) (T.Breaks rule) →
        AimsAt (rules_of_interchange order) i m (interchanged_in i order m) (made_by_interchange m) (A.Breaks rule)
    breaks_order rule h = breaks (rules_of_interchange order) ∙ h

    order_forms : (g : Structured) → broken_order order (Some g) ≡ None →
        interchanges order (fresh_op m.funcs) (fresh_value m.funcs) (Some g) o ≡ Some (anew (fresh_op m.funcs) (fresh_value m.funcs) (kind_of (interchanged order g)) o)
    order_forms g h = by (breaks_permutation order g) (breaks_reduction_order order g) h where
      e : Edit
      e = anew (fresh_op m.funcs) (fresh_value m.funcs) (kind_of (interchanged order g)) o

      by : (a b : Bool) → (if a then Some Permutation else (if b then Some ReductionOrder else None)) ≡ None → (if a || b then None else Some e) ≡ Some e
      by true b q = absurd cc
      by false true q = absurd cc
      by false false q = refl

    order_step : (g : Structured) → as_generic o.kind ≡ Some g → broken_order order (Some g) ≡ None →
        interchange order (fresh_op m.funcs) (fresh_value m.funcs) (scope_before f p.op) o ≡ Some (anew (fresh_op m.funcs) (fresh_value m.funcs) (kind_of (interchanged order g)) o)
    order_step g q h = ap (λ x. interchanges order (fresh_op m.funcs) (fresh_value m.funcs) x o) q ∙ order_forms g h

    pub becomes_turned : (kind : OpKind) → Turns order (as_generic o.kind) (T.Becomes kind) →
        AimsAt (rules_of_interchange order) i m (interchanged_in i order m) (made_by_interchange m) (A.Becomes p kind)
    becomes_turned kind h = by (as_generic o.kind) refl h where
      by : (g : Option Structured) → as_generic o.kind ≡ g → Turns order g (T.Becomes kind) →
          AimsAt (rules_of_interchange order) i m (interchanged_in i order m) (made_by_interchange m) (A.Becomes p kind)
      by None q s = absurd s.1
      by (Some g) q s = (
        breaks (rules_of_interchange order) ∙ ap (broken_order order) q ∙ s.0,
        is_there,
        forms (interchange order (fresh_op m.funcs) (fresh_value m.funcs)) (kind_of (interchanged order g)) (order_step g q s.0) ∙ ap (λ k. exchanged p k m) (sym s.1),
        refl,
      )

    pub turned_there : (kind : OpKind) → Turns order (as_generic o.kind) (T.Becomes kind) → AimVerifies m (A.Becomes p kind)
    turned_there kind h = let a = becomes_turned kind h in (is_there, subst IsVerified a.2 (interchanged_verifies m i order v))

    pub turned_fits : Turns order (as_generic o.kind) T.Unfit → ⊥
    turned_fits h = by (as_generic o.kind) refl h where
      by : (g : Option Structured) → as_generic o.kind ≡ g → Turns order g T.Unfit → ⊥
      by None q s = s.1
      by (Some g) q s =
          s.1 (exchanged_fits m p (interchanged order g) f o in_func in_body
          (subst IsVerified (forms (interchange order (fresh_op m.funcs) (fresh_value m.funcs)) (kind_of (interchanged order g)) (order_step g q s.0) ∙ ap (λ (found : Option Op). exchanged_op found p (kind_of (interchanged order g)) m) there)
          (interchanged_verifies m i order v)))
