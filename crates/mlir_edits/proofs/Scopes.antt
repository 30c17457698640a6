-- Types of values after more operations and after more definitions.
use Rattle.std.proofs.Common.{◌≡◌, ◌<◌, ◌==◌, ◌+◌, length, take, get_or, ℕ, List, [], ◌∷◌, ◌++◌, Option, Some, None, refl, sym, ap, ◌∙◌}
use Rattle.std.specs.Prelude.{if◌then◌else◌}
use Rattle.std.proofs.lemmas.List.{take_more}
use Rattle.mlir_ir.specs.Count.{first}
use Rattle.mlir_ir.specs.declared.tree.Op.{Op}
use Rattle.mlir_ir.specs.declared.tree.Ty.{Ty}
use Rattle.mlir_verify.specs.Place.{type_among}
use Rattle.verified_runs.specs.Passes.{Scope, scope_after}

pub scope_after_append : (scope : Scope) (xs ys : List Op) → scope_after scope (xs ++ ys) ≡ scope_after (scope_after scope xs) ys
scope_after_append scope [] ys = refl
scope_after_append scope (o ∷ xs) ys = scope_after_append (scope ++ o.results) xs ys

pub first_none : {A : Type 0} (a : Option A) → first a None ≡ a
first_none None = refl
first_none (Some a) = refl

pub first_first : {A : Type 0} (a b c : Option A) → first (first a b) c ≡ first a (first b c)
first_first None b c = refl
first_first (Some a) b c = refl

pub type_among_append : (ds es : Scope) (v : ℕ) → type_among (ds ++ es) v ≡ first (type_among es v) (type_among ds v)
type_among_append [] es v = sym (first_none (type_among es v))
type_among_append (d ∷ ds) es v =
    let here = if (d.0).0 == v then Some d.1 else None in
    ap (λ t. first t here) (type_among_append ds es v) ∙ first_first (type_among es v) (type_among ds v) here

-- one more operation was read
pub scope_goes : (params : Scope) (ops : List Op) (i : ℕ) (o : Op) (v : ℕ) (known new : Option Ty) → i < length ops → o ≡ get_or ops i o →
    new ≡ first (type_among o.results v) known → known ≡ type_among (scope_after params (take i ops)) v → new ≡ type_among (scope_after params (take (i + 1) ops)) v
scope_goes params ops i o v known new l g a b =
    let s = scope_after params (take i ops) in
    a
    ∙ ap (first (type_among o.results v)) b
    ∙ sym (type_among_append s o.results v)
    ∙ ap (λ (scope : Scope). type_among scope v) (sym (scope_after_append params (take i ops) (o ∷ [])))
    ∙ ap (λ (os : List Op). type_among (scope_after params os) v) (ap (λ (p : Op). take i ops ++ p ∷ []) g ∙ sym (take_more ops i o l))
