-- Sets, by the list of what was added to them.
use Rattle.std.proofs.Common.{◌≡◌, ℕ, Bool, true, false, cond, List, [], ◌∷◌, ◌++◌, Option, Some, None, refl, sym, ap, ◌∙◌}
use Rattle.std.specs.Prelude.{◌||◌, is_some}
use Rattle.std.specs.List.{list_any}
use Rattle.std.specs.Str.{bytes_eq}
use Rattle.std.proofs.lemmas.List.Folds.{list_any-append}
use Rattle.mlir_ir.specs.Count.{first}
use Rattle.transform_handles.specs.Names.{is_named}

or-true : (a : Bool) → (a || true) ≡ true
or-true true = refl
or-true false = refl

or-false : (a : Bool) → (a || false) ≡ a
or-false true = refl
or-false false = refl

-- one more at the end of a list
pub any_last : {A : Type 0} (p : A → Bool) (xs : List A) (x : A) → list_any p (xs ++ x ∷ []) ≡ (list_any p xs || p x)
any_last p xs x = list_any-append p xs (x ∷ []) ∙ ap (λ b. list_any p xs || b) (or-false (p x))

named_if : (b a : Bool) (o : Option (Unit {0})) → is_some o ≡ a → is_some (cond b (Some tt) o) ≡ (a || b)
named_if true a o h = sym (or-true a)
named_if false a o h = h ∙ sym (or-false a)

pub named_after : (o : Option (Unit {0})) (ns : List (List ℕ)) (name n : List ℕ) → is_some o ≡ is_named ns n → is_some (cond (bytes_eq name n) (Some tt) o) ≡ is_named (ns ++ name ∷ []) n
named_after o ns name n h = named_if (bytes_eq name n) (is_named ns n) o h ∙ sym (any_last (λ m. bytes_eq m n) ns name)

pub first_none : {A : Type 0} (o : Option A) → first o None ≡ o
first_none (Some a) = refl
first_none None = refl
