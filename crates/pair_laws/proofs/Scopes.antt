-- What is in scope is in scope later too, with its type.
use Rattle.std.proofs.Common.{◌≡◌, ℕ, Bool, true, false, List, [], ◌∷◌, ◌++◌, Option, Some, None, refl, ap, sym, subst, ◌∙◌}
use Rattle.std.specs.Prelude.{is_some, if◌then◌else◌}
use Rattle.std.proofs.lemmas.Bool.{true≢false, ne_eqb}
use Rattle.mlir_ir.specs.Count.{first}
use Rattle.mlir_ir.specs.declared.tree.Op.{Op}
use Rattle.mlir_ir.specs.declared.tree.Ty.{Ty}
use Rattle.mlir_ir.specs.declared.tree.ValueId.{ValueId}
use Rattle.mlir_meaning.specs.Grids.{Each}
use Rattle.mlir_meaning.specs.Names.{DoesNotName}
use Rattle.mlir_meaning.specs.States.{State, names_of}
use Rattle.affine_maps.specs.Permutation.{is_among}
use Rattle.mlir_verify.specs.Names.{numbers}
use Rattle.mlir_verify.specs.Place.{type_among}
use Rattle.mlir_verify.proofs.Standing.{type_among-append}
use Rattle.verified_runs.specs.Passes.{Scope, BodyPasses, scope_after}
use Rattle.verified_runs.specs.Typed.{AreTyped, HoldsIn}
use Rattle.pair_laws.proofs.Names.{among_typed, among_more, new_apart}

pub scope_after-append : (scope : Scope) (xs ys : List Op) → scope_after scope (xs ++ ys) ≡ scope_after (scope_after scope xs) ys
scope_after-append scope [] ys = refl
scope_after-append scope (x ∷ xs) ys = scope_after-append (scope ++ x.results) xs ys

pub none_typed : (ds : Scope) (v : ℕ) → is_among v (numbers ds) ≡ false → type_among ds v ≡ None
none_typed ds v h = by (type_among ds v) refl where
  by : (o : Option Ty) → type_among ds v ≡ o → type_among ds v ≡ None
  by None q = q
  by (Some t) q = absurd (true≢false (sym (among_typed ds v (ap is_some q)) ∙ h))

pub none_named : (rs : Scope) (v : ℕ) → DoesNotName v (names_of rs) → type_among rs v ≡ None
none_named [] v h = refl
none_named (r ∷ rs) v h = λ j. first (none_named rs v h.1 j) (if ne_eqb (r.0).0 v (λ e. h.0 (sym e)) j then Some r.1 else None)

still_type : (scope rs : Scope) (v : ℕ) → is_among v (numbers scope) ≡ true → Each (λ (r : ValueId × Ty). is_among (r.0).0 (numbers scope) ≡ false) rs → type_among (scope ++ rs) v ≡ type_among scope v
still_type scope rs v h n = type_among-append scope rs v ∙ ap (λ o. first o (type_among scope v)) (none_named rs v (new_apart scope rs v h n))

module _ (wanted : List Ty) where
  pub type_kept : (os rest : List Op) (scope : Scope) (v : ℕ) → BodyPasses scope wanted (os ++ rest) → is_among v (numbers scope) ≡ true → type_among (scope_after scope os) v ≡ type_among scope v
  type_kept [] rest scope v h k = refl
  type_kept (o ∷ os) rest scope v h k = type_kept os rest (scope ++ o.results) v h.2 (among_more scope o.results v k) ∙ still_type scope o.results v k (h.0).news

  -- so a state that is typed later is typed before
  pub typed_before : (os rest : List Op) (scope : Scope) (u : State) → BodyPasses scope wanted (os ++ rest) → AreTyped (type_among (scope_after scope os)) u → AreTyped (type_among scope) u
  typed_before os rest scope u h t v = by (is_among v (numbers scope)) refl where
    by : (b : Bool) → is_among v (numbers scope) ≡ b → HoldsIn (type_among scope v) (u.values v)
    by true q = subst (λ o. HoldsIn o (u.values v)) (type_kept os rest scope v h q) (t v)
    by false q = subst (λ o. HoldsIn o (u.values v)) (sym (none_typed scope v q)) tt
