-- Numbers in scope: what is known, what is new, and what later operations leave alone.
use Rattle.std.proofs.Common.{◌≡◌, ℕ, ◌==◌, ◌||◌, Bool, true, false, List, [], ◌∷◌, ◌++◌, Option, Some, None, refl, ap, sym, ◌∙◌}
use Rattle.std.specs.Prelude.{is_some, if◌then◌else◌}
use Rattle.std.specs.List.{list_all}
use Rattle.std.proofs.lemmas.Bool.{and_parts, true≢false}
use Rattle.mlir_ir.specs.Count.{first}
use Rattle.mlir_ir.specs.declared.tree.Op.{Op}
use Rattle.mlir_ir.specs.declared.tree.Ty.{Ty}
use Rattle.mlir_ir.specs.declared.tree.ValueId.{ValueId}
use Rattle.mlir_meaning.specs.Grids.{Each}
use Rattle.mlir_meaning.specs.Names.{DoesNotName}
use Rattle.mlir_meaning.specs.States.{names_of}
use Rattle.affine_maps.specs.Permutation.{is_among}
use Rattle.mlir_verify.specs.Names.{numbers}
use Rattle.mlir_verify.specs.Place.{type_among}
use Rattle.verified_runs.specs.Passes.{Scope, BodyPasses}

pub among_typed : (ds : Scope) (v : ℕ) → is_some (type_among ds v) ≡ true → is_among v (numbers ds) ≡ true
among_typed [] v h = absurd cc
among_typed (d ∷ ds) v h = by ((d.0).0 == v) (type_among ds v) h (among_typed ds v) where
  by : (b : Bool) (o : Option Ty) → is_some (first o (if b then Some d.1 else None)) ≡ true → (is_some o ≡ true → is_among v (numbers ds) ≡ true) → (b || is_among v (numbers ds)) ≡ true
  by true o h k = refl
  by false None h k = absurd cc
  by false (Some t) h k = k refl

pub among_more : (xs ys : Scope) (v : ℕ) → is_among v (numbers xs) ≡ true → is_among v (numbers (xs ++ ys)) ≡ true
among_more [] ys v h = absurd cc
among_more (x ∷ xs) ys v h = by ((x.0).0 == v) (among_more xs ys v) h where
  by : (b : Bool) → (is_among v (numbers xs) ≡ true → is_among v (numbers (xs ++ ys)) ≡ true) → (b || is_among v (numbers xs)) ≡ true → (b || is_among v (numbers (xs ++ ys))) ≡ true
  by true k h = refl
  by false k h = k h

pub each_known : (scope : Scope) (vs : List ValueId) → list_all (λ (v : ValueId). is_some (type_among scope v.0)) vs ≡ true → Each (λ (v : ValueId). is_among v.0 (numbers scope) ≡ true) vs
each_known scope [] h = tt
each_known scope (v ∷ vs) h =
    let both = and_parts (is_some (type_among scope v.0)) (list_all (λ (v : ValueId). is_some (type_among scope v.0)) vs) h in
    (among_typed scope v.0 both.0, each_known scope vs both.1)

pub new_apart : (scope rs : Scope) (v : ℕ) → is_among v (numbers scope) ≡ true → Each (λ (r : ValueId × Ty). is_among (r.0).0 (numbers scope) ≡ false) rs → DoesNotName v (names_of rs)
new_apart scope [] v h k = tt
new_apart scope (r ∷ rs) v h k = (λ e. true≢false (sym h ∙ ap (λ n. is_among n (numbers scope)) e ∙ k.0), new_apart scope rs v h k.1)

pub untouched : (wanted : List Ty) (mid rest : List Op) (scope : Scope) (v : ℕ) → BodyPasses scope wanted (mid ++ rest) → is_among v (numbers scope) ≡ true → Each (λ (o : Op). DoesNotName v (names_of o.results)) mid
untouched wanted [] rest scope v h k = tt
untouched wanted (o ∷ mid) rest scope v h k = (new_apart scope o.results v k (h.0).news, untouched wanted mid rest (scope ++ o.results) v h.2 (among_more scope o.results v k))
