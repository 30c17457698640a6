-- One new operation with fresh numbers: what it forms passes the verifier where that operation does.
use Rattle.std.proofs.Common.{◌≡◌, ℕ, ◌<◌, ◌==◌, ◌||◌, false, List, [], ◌∷◌, ◌++◌, Some, None, ⊎_elim, refl, sym, subst, ◌∙◌, arith, eq-eqb}
use Rattle.std.specs.Prelude.{if◌then◌else◌}
use Rattle.std.proofs.lemmas.Bool.{ne_eqb}
use Rattle.std.proofs.lemmas.Bool.Decides.{eqb_tells}
use Rattle.mlir_ir.specs.Count.{first}
use Rattle.mlir_ir.specs.declared.tree.Op.{Op}
use Rattle.mlir_ir.specs.declared.tree.OpKind.{OpKind}
use Rattle.mlir_ir.specs.declared.tree.Ty.{Ty}
use Rattle.mlir_ir.specs.declared.tree.ValueId.{ValueId}
use Rattle.mlir_meaning.specs.States.{names_of}
use Rattle.mlir_verify.specs.Place.{type_among}
use Rattle.mlir_verify.specs.Ends.{is_return}
use Rattle.mlir_verify.proofs.Standing.{type_among-append}
use Rattle.verified_runs.specs.Passes.{Scope, OpPasses}
use Rattle.verified_runs.specs.Edits.{moved}
use Rattle.verified_runs.specs.Edits.{renumbered, anew}
use Rattle.verified_runs.specs.Laws.{Retypes, PassesThere}
use Rattle.verified_runs.proofs.Results.{HasOne, new_numbers}
use Rattle.verified_runs.proofs.ReusedBodies.{among_parts, or_false}
use Rattle.verified_runs.proofs.Formed.{filled}

module _ (n : ℕ) (r : ValueId × Ty) where
  to : ℕ → ℕ
  to = moved (names_of (r ∷ [])) (names_of (renumbered n (r ∷ [])))

  from : ℕ → ℕ
  from = moved (names_of (renumbered n (r ∷ []))) (names_of (r ∷ []))

  returns_one : (v : ℕ) → v < n → from (to v) ≡ v
  unfolding to from
  returns_one v l = ⊎_elim
      (λ t. (λ j. from (if t.0 j then n else v)) ∙ (λ j. if eq-eqb n n refl j then (r.0).0 else n) ∙ sym t.1)
      (λ t. (λ j. from (if t.0 j then n else v)) ∙ (λ j. if ne_eqb v n (λ e. absurd (omega (arith, e, l))) j then (r.0).0 else v))
      (eqb_tells v (r.0).0)

  retypes_one : (scope : Scope) → Retypes n to (scope ++ r ∷ []) (scope ++ renumbered n (r ∷ []))
  unfolding to
  retypes_one scope = record {
    types = λ v l. type_among-append scope (renumbered n (r ∷ [])) (to v) ∙ same v l ∙ sym (type_among-append scope (r ∷ []) v);
    none = λ v l e.
        let parts = or_false _ _ (sym (among_parts v scope (r ∷ [])) ∙ e) in
        among_parts v scope (renumbered n (r ∷ [])) ∙ (λ j. parts.0 j || (ne_eqb n v (λ q. absurd (omega (arith, q, l))) j || false));
  } where
    same : (v : ℕ) → v < n → first (type_among (renumbered n (r ∷ [])) (to v)) (type_among scope (to v)) ≡ first (type_among (r ∷ []) v) (type_among scope v)
    same v l = ⊎_elim
        (λ t. let e = t.1 in
        (λ j. first (if n == (if t.0 j then n else v) then Some r.1 else None) (type_among scope (if t.0 j then n else v))) ∙ (λ j. first (if eq-eqb n n refl j then Some r.1 else None) (type_among scope n))
        ∙ sym (λ j. first (if eq-eqb (r.0).0 v (sym e) j then Some r.1 else None) (type_among scope v)))
        (λ t. let e = t.1 in
        (λ j. first (if n == (if t.0 j then n else v) then Some r.1 else None) (type_among scope (if t.0 j then n else v))) ∙ (λ j. first (if ne_eqb n v (λ q. absurd (omega (arith, q, l))) j then Some r.1 else None) (type_among scope v))
        ∙ sym (λ j. first (if ne_eqb (r.0).0 v (λ q. e (sym q)) j then Some r.1 else None) (type_among scope v)))
        (eqb_tells v (r.0).0)

pub one_passes : (n op : ℕ) (kind : OpKind) (scope : Scope) (wanted : List Ty) (o : Op) → HasOne o.results → is_return kind ≡ false →
    OpPasses scope wanted (record { id = record { 0 = op }; results = renumbered n o.results; kind = kind }) → PassesThere n scope wanted o (anew op n kind o)
unfolding to from
one_passes n op kind scope wanted o one ends passes = record {
  fresh = new_numbers n o.results;
  back = moved (names_of (renumbered n o.results)) (names_of o.results);
  returns = subst (λ rs. (v : ℕ) → v < n → moved (names_of (renumbered n rs)) (names_of rs) (moved (names_of rs) (names_of (renumbered n rs)) v) ≡ v) (sym one.1) (returns_one n one.0);
  front = λ rest l h. (passes, ends ∙ sym (filled rest l), h);
  retypes = subst (λ rs. Retypes n (moved (names_of rs) (names_of (renumbered n rs))) (scope ++ rs) (scope ++ renumbered n rs)) (sym one.1) (retypes_one n one.0 scope);
}
