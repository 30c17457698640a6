-- A step at an operation of a body after a pass: the rule that it breaks, and that it forms what a pass with one more exchange gives.
use Rattle.std.proofs.Common.{◌≡◌, ℕ, ◌<◌, ◌≤◌, ◌==◌, Bool, true, false, List, [], ◌∷◌, ◌++◌, Some, None, refl, ap, sym, subst, ◌∙◌, arith, eqb-true, eq-eqb}
use Rattle.std.specs.Prelude.{option_map, if◌then◌else◌}
use Rattle.affine_maps.specs.Permutation.{is_among}
use Rattle.mlir_ir.specs.Count.{operands}
use Rattle.mlir_ir.specs.declared.tree.Op.{Op}
use Rattle.mlir_ir.specs.declared.tree.OpId.{OpId}
use Rattle.mlir_ir.specs.declared.tree.OpKind.{OpKind}
use Rattle.mlir_ir.specs.declared.tree.Ty.{Ty}
use Rattle.mlir_ir.specs.declared.tree.ValueId.{ValueId}
use Rattle.mlir_meaning.specs.Grids.{Each}
use Rattle.mlir_meaning.specs.Renaming.{renamed}
use Rattle.mlir_meaning.specs.States.{names_of}
use Rattle.mlir_meaning.proofs.Grids.{each_more}
use Rattle.mlir_verify.specs.Names.{ids, numbers}
use Rattle.mlir_verify.specs.Place.{Types, type_among}
use Rattle.verified_runs.specs.Edits.{anew, placed, edited_body}
use Rattle.verified_runs.specs.Fresh.{above_values, above_body}
use Rattle.verified_runs.specs.Passes.{Scope, OpPasses, BodyPasses, scope_after}
use Rattle.verified_runs.proofs.Places.{names_below}
use Rattle.verified_runs.proofs.Runs.{rest_passes}
use Rattle.verified_runs.proofs.Steps.{above_part}
use Rattle.structured_steps.specs.Steps.{broken_in}
use Rattle.step_results.proofs.Small.{numbers_below, body_above}
use Rattle.step_passes.specs.declared.exchange.Exchange.{Exchange}
use Rattle.step_passes.specs.Exchanging.{Exchanging, rules_of, step_of}
use Rattle.step_passes.specs.OnePass.{exchange_of, Names, with_name, reused, put, passed_ops}
use Rattle.step_passes.proofs.Walking.{turned_eqb, IsFresh, names_after, passed_append, passed_elsewhere, edited_past, edited_here, broken_past, broken_here, absent_passed, absent_names, after_names, target_passed}
use Rattle.step_passes.proofs.Following.{Follows, apart, follows_start, follows_after}

abbrev pub kind_reused : Names → OpKind → OpKind
kind_reused g kind = renamed (λ n. n) g (λ n. n) kind

abbrev pub AreRetyped : Names → Types → Types → OpKind → Type 0
AreRetyped g t u kind = Each (λ (v : ValueId). u (g v.0) ≡ t v.0) (operands kind)

-- what a step says of a kind goes through other names of its operands
pub record IsNatural (e : Exchanging) : Type 0 where
  pub breaks : (g : Names) (t u : Types) (kind : OpKind) → AreRetyped g t u kind → e.breaks u (kind_reused g kind) ≡ e.breaks t kind
  pub stays : (g : Names) (kind : OpKind) → e.stays (kind_reused g kind) ≡ e.stays kind
  pub becomes : (g : Names) (t u : Types) (kind : OpKind) → AreRetyped g t u kind → e.becomes u (kind_reused g kind) ≡ option_map (kind_reused g) (e.becomes t kind)

abbrev pub own : Names
own w = w

module _ (n k : ℕ) (xs : List Exchange) (fresh : Each (IsFresh n k) xs) (t : OpId) (small : t.0 < k) (none : exchange_of xs t.0 ≡ None)
    (params : Scope) (wanted : List Ty) (before : List Op) (o : Op) (after : List Op)
    (was : BodyPasses params wanted (before ++ (o ∷ after))) (is : BodyPasses params wanted (passed_ops xs own (before ++ (o ∷ after))))
    (params_small : above_values (names_of params) ≤ n) (body_small : above_body (before ++ (o ∷ after)) ≤ n)
    (here : (o.id.0 == t.0) ≡ true) (absent : is_among t.0 (ids before) ≡ false) where
  abbrev pub names : Names
  names = names_after xs own before

  abbrev pub old : Scope
  old = scope_after params before

  abbrev pub front : List Op
  front = passed_ops xs own before

  abbrev pub rest : List Op
  rest = passed_ops xs names after

  abbrev pub other : Scope
  other = scope_after params front

  not_exchanged : exchange_of xs o.id.0 ≡ None
  not_exchanged = ap (exchange_of xs) (eqb-true o.id.0 t.0 here) ∙ none

  -- the target stands with its uses renamed
  pub there : passed_ops xs own (before ++ (o ∷ after)) ≡ front ++ (reused names o ∷ rest)
  there =
      passed_append xs own before (o ∷ after)
      ∙ (λ j. front ++ ((put (not_exchanged j) names o o.results).0 ∷ passed_ops xs (put (not_exchanged j) names o o.results).1 after))

  pub front_absent : is_among t.0 (ids front) ≡ false
  front_absent = passed_elsewhere n k xs fresh t small before own absent

  pub follows : Follows n old other names
  follows =
      follows_after n k xs fresh wanted before (o ∷ after) params params own was is (body_above before (o ∷ after) n body_small).0
      (follows_start n params (numbers_below params n params_small))

  pub was_passing : OpPasses old wanted o
  was_passing = (rest_passes wanted before (o ∷ after) params was).0

  pub is_passing : OpPasses other wanted (reused names o)
  is_passing = (rest_passes wanted front (reused names o ∷ rest) params (subst (BodyPasses params wanted) there is)).0

  pub retyped : AreRetyped names (type_among old) (type_among other) o.kind
  retyped =
      each_more (λ (v : ValueId). v.0 < n) (λ v. type_among other (names v.0) ≡ type_among old v.0) (λ v l. follows.types v.0 l) (operands o.kind)
      (names_below n (operands o.kind) (let l = (above_part before after o n body_small).0 in omega (arith, l)))

  module _ (e : Exchanging) (natural : IsNatural e) where
    -- the rule is that of the operation before
    pub broken_passed : broken_in t (rules_of e) params (passed_ops xs own (before ++ (o ∷ after))) ≡ e.breaks (type_among old) o.kind
    broken_passed =
        ap (broken_in t (rules_of e) params) there
        ∙ broken_past t (rules_of e) front (reused names o ∷ rest) params front_absent
        ∙ broken_here t (rules_of e) (reused names o) rest other here
        ∙ natural.breaks names (type_among old) (type_among other) o.kind retyped

    edited_there : (op value : ℕ) → edited_body t (step_of e op value) params (passed_ops xs own (before ++ (o ∷ after)))
        ≡ front ++ placed (option_map (λ kind. anew op value kind (reused names o)) (option_map (kind_reused names) (e.becomes (type_among old) o.kind))) (reused names o) rest
    edited_there op value =
        ap (edited_body t (step_of e op value) params) there
        ∙ edited_past t (step_of e op value) front (reused names o ∷ rest) params front_absent
        ∙ ap (λ ps. front ++ ps)
        (edited_here t (step_of e op value) (reused names o) rest other here
        ∙ ap (λ x. placed (option_map (λ kind. anew op value kind (reused names o)) x) (reused names o) rest)
        (natural.becomes names (type_among old) (type_among other) o.kind retyped))

    -- an operation that stays leaves the body as it is
    pub stays_passed : (op value : ℕ) → e.becomes (type_among old) o.kind ≡ None →
        edited_body t (step_of e op value) params (passed_ops xs own (before ++ (o ∷ after))) ≡ passed_ops xs own (before ++ (o ∷ after))
    stays_passed op value h =
        edited_there op value
        ∙ ap (λ x. front ++ placed (option_map (λ kind. anew op value kind (reused names o)) (option_map (kind_reused names) x)) (reused names o) rest) h
        ∙ sym there

    pub becomes_there : (op value : ℕ) (kind : OpKind) → e.becomes (type_among old) o.kind ≡ Some kind →
        edited_body t (step_of e op value) params (passed_ops xs own (before ++ (o ∷ after)))
        ≡ front ++ placed (Some (anew op value (kind_reused names kind) (reused names o))) (reused names o) rest
    becomes_there op value kind h =
        edited_there op value
        ∙ ap (λ x. front ++ placed (option_map (λ kind. anew op value kind (reused names o)) (option_map (kind_reused names) x)) (reused names o) rest) h

-- the result's name and the names before it
same_names : (n : ℕ) (old other : Scope) (g : Names) (r m : ℕ) → Follows n old other g → is_among r (numbers old) ≡ false → is_among r (numbers other) ≡ false →
    with_name r m g ≡ after_names r m g
same_names n old other g r m f h k = λ j w. by_test w (w == r) refl j where
  by_test : (w : ℕ) (b : Bool) → (w == r) ≡ b → (if b then m else g w) ≡ after_names r m g w
  by_test w true e =
      let kept : g w ≡ r = ap g (eqb-true w r e) ∙ f.outside r h ∙ refl in
      sym (λ j. if eq-eqb (g w) r kept j then m else g w)
  by_test w false e = sym (λ j. if apart n old other g f r w h k e j then m else g w)

-- one more exchange, at an operation of one result
pub becomes_passed : (n k : ℕ) (xs : List Exchange) (fresh : Each (IsFresh n k) xs) (y : Exchange) (small : y.target.0 < k) (none : exchange_of xs y.target.0 ≡ None)
    (params : Scope) (wanted : List Ty) (before : List Op) (i : OpId) (r : ValueId × Ty) (kind : OpKind) (after : List Op) →
    BodyPasses params wanted (before ++ (record { id = i; results = r ∷ []; kind = kind } ∷ after)) →
    BodyPasses params wanted (passed_ops xs own (before ++ (record { id = i; results = r ∷ []; kind = kind } ∷ after))) →
    above_values (names_of params) ≤ n → above_body (before ++ (record { id = i; results = r ∷ []; kind = kind } ∷ after)) ≤ n →
    (i.0 == y.target.0) ≡ true → is_among y.target.0 (ids before) ≡ false → is_among y.target.0 (ids after) ≡ false →
    (e : Exchanging) → IsNatural e → e.becomes (type_among (scope_after params before)) kind ≡ Some y.kind →
    edited_body y.target (step_of e y.op y.value) params (passed_ops xs own (before ++ (record { id = i; results = r ∷ []; kind = kind } ∷ after)))
    ≡ passed_ops (xs ++ y ∷ []) own (before ++ (record { id = i; results = r ∷ []; kind = kind } ∷ after))
becomes_passed n k xs fresh y small none params wanted before i r kind after was is params_small body_small here absent absent_after e natural h =
    let o : Op = record { id = i; results = r ∷ []; kind = kind } in
    let g = names_after xs own before in
    let front_ops = passed_ops xs own before in
    let f = follows n k xs fresh y.target small none params wanted before o after was is params_small body_small here absent in
    let new_old = (was_passing n k xs fresh y.target small none params wanted before o after was is params_small body_small here absent).news in
    let new_other = (is_passing n k xs fresh y.target small none params wanted before o after was is params_small body_small here absent).news in
    becomes_there n k xs fresh y.target small none params wanted before o after was is params_small body_small here absent e natural y.op y.value y.kind h
    ∙ ap (λ ps. front_ops ++ ps)
    (sym (target_passed n k xs y i r kind g after fresh (let l = (above_part before after o n body_small).0 in omega (arith, l)) (turned_eqb y.target.0 i.0 ∙ here) (ap (exchange_of xs) (eqb-true i.0 y.target.0 here) ∙ none) absent_after
    (same_names n (scope_after params before) (scope_after params front_ops) g (r.0).0 y.value f new_old.0 new_other.0)))
    ∙ sym (passed_append (xs ++ y ∷ []) own before (o ∷ after) ∙ (λ j. absent_passed xs y before own absent j ++ passed_ops (xs ++ y ∷ []) (absent_names xs y before own absent j) (o ∷ after)))
