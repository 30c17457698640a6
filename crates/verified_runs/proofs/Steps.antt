-- A step that has its target's effect keeps the meaning of every function.
use Rattle.std.proofs.Common.{◌≡◌, ℕ, ◌≤◌, ◌==◌, Bool, true, false, List, [], ◌∷◌, ◌++◌, Option, Some, None, ◌⊎◌, inl, inr, refl, ap, sym, subst, ◌∙◌, arith, eq-eqb}
use Rattle.std.specs.Prelude.{◌||◌, if◌then◌else◌}
use Rattle.mlir_ir.specs.Count.{first, find_inside, find_op}
use Rattle.mlir_ir.specs.Shape.{FuncShape, TensorShape}
use Rattle.mlir_ir.specs.declared.tree.Op.{Op}
use Rattle.mlir_ir.specs.declared.tree.OpId.{OpId}
use Rattle.mlir_ir.specs.declared.tree.OpKind.{OpKind, For', Forall'}
use Rattle.mlir_ir.specs.declared.tree.Ty.{Ty}
use Rattle.mlir_ir.specs.declared.tree.ValueId.{ValueId}
use Rattle.mlir_meaning.specs.Grids.{Each}
use Rattle.mlir_meaning.specs.States.{names_of}
use Rattle.mlir_meaning.specs.Meaning.{meaning}
use Rattle.mlir_meaning.specs.Contexts.{Here}
use Rattle.mlir_meaning.proofs.Grids.{each_more}
use Rattle.mlir_verify.specs.Built.{is_built_kind}
use Rattle.affine_maps.specs.Permutation.{is_among}
use Rattle.mlir_verify.specs.Names.{numbers}
use Rattle.verified_runs.specs.Typed.{AreOf, types_of}
use Rattle.verified_runs.specs.Passes.{Scope, BodyPasses, FuncPasses, scope_after}
use Rattle.verified_runs.proofs.Runs.{comes_typed, rest_passes}
use Rattle.verified_runs.proofs.Verified.{verified_passes}
use Rattle.verified_runs.specs.Edits.{Edit, moved, Step, placed, edited_body, edited_func}
use Rattle.verified_runs.specs.Fresh.{above_op, above_body, above_func, fresh_value, below}
use Rattle.verified_runs.specs.Laws.{IsRight, KeepsMeaning, StepKeepsMeaning, ModuleKeepsMeaning}
use Rattle.mlir_meaning.proofs.OneState.{one_state_replacement}
use Rattle.verified_runs.proofs.Places.{built_kind, reads_below, alone}

-- where a step finds its target
pub record Located (i : OpId) (step : Step) (scope : Scope) (os : List Op) : Type 0 where
  pub before : List Op
  pub target : Op
  pub after : List Op
  pub is : os ≡ before ++ (target ∷ after)
  pub found : find_op i os ≡ Some target
  pub edited : edited_body i step scope os ≡ before ++ placed (step (scope_after scope before) target) target after

abbrev pub Finds : OpId → Step → Scope → List Op → Type 0
Finds i step scope os = (edited_body i step scope os ≡ os) ⊎ Located i step scope os

nothing_inside : (i : OpId) (kind : OpKind) → is_built_kind kind ≡ true → find_inside i kind ≡ None
nothing_inside i (For' var lower upper step carried shape row) b = absurd cc
nothing_inside i (Forall' vars lower upper step shared shape row) b = absurd cc
nothing_inside i kind b = refl

module _ (i : OpId) (step : Step) (wanted : List Ty) where
  pub located : (os : List Op) (scope : Scope) → BodyPasses scope wanted os → Finds i step scope os
  unfolding edited_body
  located [] scope h = inl refl
  located (o ∷ os) scope h = by_test (o.id.0 == i.0) refl (located os (scope ++ o.results) h.2) where
    by_test : (b : Bool) → (o.id.0 == i.0) ≡ b → Finds i step (scope ++ o.results) os → Finds i step scope (o ∷ os)
    by_test true e rest = inr (record {
      before = [];
      target = o;
      after = os;
      is = refl;
      found = λ j. if e j then Some o else first (find_inside i o.kind) (find_op i os);
      edited = λ j. if e j then placed (step scope o) o os else o ∷ edited_body i step (scope ++ o.results) os;
    })
    by_test false e (inl same) = inl ((λ j. if e j then placed (step scope o) o os else o ∷ edited_body i step (scope ++ o.results) os) ∙ ap (λ ps. o ∷ ps) same)
    by_test false e (inr l) = inr (record {
      before = o ∷ l.before;
      target = l.target;
      after = l.after;
      is = ap (λ ps. o ∷ ps) l.is;
      found = (λ j. if e j then Some o else first (nothing_inside i o.kind (built_kind scope wanted o h.0) j) (find_op i os)) ∙ l.found;
      edited = (λ j. if e j then placed (step scope o) o os else o ∷ edited_body i step (scope ++ o.results) os) ∙ ap (λ ps. o ∷ ps) l.edited;
    })

pub above_part : (before after : List Op) (o : Op) (n : ℕ) → above_body (before ++ (o ∷ after)) ≤ n → (above_op o ≤ n) × (above_body after ≤ n)
above_part [] after o n l = (omega arith, omega arith)
above_part (p ∷ before) after o n l = above_part before after o n (omega arith)

-- results are in scope after their operation
pub added : (scope rs : Scope) → Each (λ (r : ValueId × Ty). is_among (r.0).0 (numbers (scope ++ rs)) ≡ true) rs
added scope rs = each_more (λ (r : ValueId × Ty). is_among (r.0).0 (numbers rs) ≡ true) (λ r. is_among (r.0).0 (numbers (scope ++ rs)) ≡ true) (λ r h. behind (r.0).0 scope h) rs (own rs) where
  or_true : (b : Bool) → (b || true) ≡ true
  or_true true = refl
  or_true false = refl

  behind : (k : ℕ) (xs : Scope) → is_among k (numbers rs) ≡ true → is_among k (numbers (xs ++ rs)) ≡ true
  behind k [] h = h
  behind k (x ∷ xs) h = (λ j. ((x.0).0 == k) || behind k xs h j) ∙ or_true ((x.0).0 == k)

  own : (ds : Scope) → Each (λ (r : ValueId × Ty). is_among (r.0).0 (numbers ds) ≡ true) ds
  own [] = tt
  own (d ∷ ds) = (
    (λ j. eq-eqb (d.0).0 (d.0).0 refl j || is_among (d.0).0 (numbers ds)),
    each_more (λ (r : ValueId × Ty). is_among (r.0).0 (numbers ds) ≡ true) (λ r. is_among (r.0).0 (numbers (d ∷ ds)) ≡ true) (λ r h. (λ j. ((d.0).0 == (r.0).0) || h j) ∙ or_true ((d.0).0 == (r.0).0)) ds (own ds),
  )

func_with : FuncShape → List Op → FuncShape
func_with f body = record { name = f.name; params = f.params; results = f.results; body = body }

module _ (f : FuncShape) (i : OpId) (step : Step) (n : ℕ) (passes : FuncPasses f) (small : above_func f ≤ n) (right : IsRight n i step f.body) where
  at_target : (inputs : List TensorShape) → AreOf (types_of f.params) inputs → (l : Located i step f.params f.body) (e : Option Edit) → step (scope_after f.params l.before) l.target ≡ e →
      meaning (func_with f (l.before ++ placed e l.target l.after)) inputs ≡ meaning (func_with f (l.before ++ (l.target ∷ l.after))) inputs
  unfolding func_with
  at_target inputs typed l None q = refl
  at_target inputs typed l (Some e) q =
      let scope = scope_after f.params l.before in
      let body = rest_passes f.results l.before (l.target ∷ l.after) f.params (subst (BodyPasses f.params f.results) l.is passes.body) in
      let parts = above_part l.before l.after l.target n (subst (λ os. above_body os ≤ n) l.is (omega arith)) in
      let effect = right scope f.results l.target e l.found body.0 parts.0 q in
      one_state_replacement (below n) (moved (names_of l.target.results) e.values) (Here l.before l.after) (l.target ∷ []) e.ops f inputs
      (reads_below n f.results l.after (scope ++ l.target.results) body.2 parts.1)
      (alone n f.results l.target.results e.values effect.fresh l.after (scope ++ l.target.results) body.2 (added scope l.target.results) parts.1)
      (λ u r. effect.same u (comes_typed f (Here l.before l.after) (l.target ∷ []) inputs u passes l.is typed r))

  either : (inputs : List TensorShape) → AreOf (types_of f.params) inputs → Finds i step f.params f.body → meaning (edited_func i step f) inputs ≡ meaning f inputs
  unfolding func_with
  either inputs typed (inl same) = λ j. meaning (func_with f (same j)) inputs
  either inputs typed (inr l) =
      (λ j. meaning (func_with f (l.edited j)) inputs) ∙ at_target inputs typed l (step (scope_after f.params l.before) l.target) refl ∙ (λ j. meaning (func_with f (sym l.is j)) inputs)

pub step_keeps : StepKeepsMeaning
step_keeps f i step n passes small right inputs typed = either f i step n passes small right inputs typed (located i step f.results f.body f.params passes.body)

keeps_all : (i : OpId) (step : Step) (n : ℕ) → ((body : List Op) → IsRight n i step body) → (fs : List FuncShape) → fresh_value fs ≤ n → Each FuncPasses fs → Each (KeepsMeaning i step) fs
keeps_all i step n right [] l h = tt
keeps_all i step n right (f ∷ fs) l h = (step_keeps f i step n h.0 (omega arith) (right f.body), keeps_all i step n right fs (omega arith) h.1)

pub module_keeps : ModuleKeepsMeaning
module_keeps m i step verified right = keeps_all i step (fresh_value m.funcs) right m.funcs (omega arith) (verified_passes m verified)
