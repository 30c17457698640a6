-- The names d0, d1, .. of a canonical text: they differ, and each has its number.
use Rattle.std.proofs.Common.{◌≡◌, ◌<◌, ◌≤◌, ℕ, zero, suc, ◌+◌, Bool, true, false, cond, nat_eq, List, [], ◌∷◌, ◌++◌, length, Some, None, refl, sym, ap, ◌∙◌, arith, length-append}
use Rattle.std.specs.Prelude.{is_some}
use Rattle.std.specs.Str.{bytes_eq}
use Rattle.std.proofs.lemmas.Bool.{cond-true, cond-false, eqb-true, eqb-false}
use Rattle.std.proofs.lemmas.Slice.Eq.{bytes_eq-Decides}
use Rattle.text_format.specs.declared.class.Class.{Class}
use Rattle.text_format.specs.Numerals.{numeral}
use Rattle.text_format.proofs.Numerals.{numeral_injective}
use Rattle.affine_text.specs.Grammar.{dimension_of, AreNew, OthersAreNew, with_names, with_others}
use Rattle.affine_text.specs.Text.{dimension_text}
use Rattle.affine_text.specs.Canonical.{others, declared_from, dimensions}
use Rattle.affine_text.proofs.Numbers.{declared_last}

-- d0, .., d(n-1)
abbrev pub names_to : ℕ → List (List ℕ)
names_to zero = []
names_to (suc n) = names_to n ++ dimension_text n ∷ []

pub how_many : (n : ℕ) → length (names_to n) ≡ n
how_many zero = refl
how_many (suc n) = omega (arith, length-append (names_to n) (dimension_text n ∷ []), how_many n)

same_tail : (x : ℕ) (xs ys : List ℕ) → x ∷ xs ≡ x ∷ ys → xs ≡ ys
same_tail x xs ys e = cc

not_true : (b : Bool) → (b ≡ true → ⊥) → b ≡ false
not_true true h = absurd (h refl)
not_true false h = refl

-- names of two dimensions differ
apart : (n k : ℕ) → (n ≡ k → ⊥) → bytes_eq (dimension_text n) (dimension_text k) ≡ false
apart n k h = not_true (bytes_eq (dimension_text n) (dimension_text k)) (λ e. h (numeral_injective n k (same_tail 100 (numeral n) (numeral k) ((bytes_eq-Decides (dimension_text n) (dimension_text k)).0 e))))

-- the number of a name among one more
one_more : (n : ℕ) → dimension_of (names_to n) (dimension_text n) ≡ None → (q : List ℕ) → dimension_of (names_to (suc n)) q ≡ cond (bytes_eq (dimension_text n) q) (Some n) (dimension_of (names_to n) q)
one_more n none q =
    sym (declared_last (names_to n) (dimension_text n) (dimension_of (names_to n)) (λ (p : List ℕ). cond (bytes_eq (dimension_text n) p) (Some n) (dimension_of (names_to n) p)) n (λ p. refl) (sym (how_many n)) (λ p. refl) none q)

new_name : (n k : ℕ) → n ≤ k → dimension_of (names_to n) (dimension_text k) ≡ None
unfolding dimension_of
new_name zero k h = refl
new_name (suc n) k h =
    one_more n (new_name n n (omega arith)) (dimension_text k)
    ∙ cond-false (bytes_eq (dimension_text n) (dimension_text k)) _ _ (apart n k (λ e. absurd (omega (arith, e, h))))
    ∙ new_name n k (omega (arith, h))

old_by : (n k : ℕ) → (b : Bool) → nat_eq n k ≡ b → (b ≡ false → dimension_of (names_to n) (dimension_text k) ≡ Some k) → dimension_of (names_to (suc n)) (dimension_text k) ≡ Some k
old_by n k true e h =
    one_more n (new_name n n (omega arith)) (dimension_text k)
    ∙ cond-true (bytes_eq (dimension_text n) (dimension_text k)) _ _ ((bytes_eq-Decides (dimension_text n) (dimension_text k)).1 (ap dimension_text (eqb-true n k e)))
    ∙ ap (λ (j : ℕ). Some j) (eqb-true n k e)
old_by n k false e h =
    one_more n (new_name n n (omega arith)) (dimension_text k) ∙ cond-false (bytes_eq (dimension_text n) (dimension_text k)) _ _ (apart n k (λ d. absurd (omega (arith, d, eqb-false n k e)))) ∙ h refl

old_name : (n k : ℕ) → k < n → dimension_of (names_to n) (dimension_text k) ≡ Some k
old_name zero k h = absurd (omega (arith, h))
old_name (suc n) k h = old_by n k (nat_eq n k) refl (λ e. old_name n k (omega (arith, h, eqb-false n k e)))

-- these names are d0, d1, .. each with its number
abbrev pub AreNumbered : ℕ → List (List ℕ) → Type 0
AreNumbered n names = (k : ℕ) → k < n → dimension_of names (dimension_text k) ≡ Some k

pub numbered : (n : ℕ) → AreNumbered n (names_to n)
numbered n = λ k h. old_name n k h

-- ---- as they are declared

others_new : (c : Class) (k n at : ℕ) → OthersAreNew (names_to k) ((others (declared_from c k n)).tree at)
others_new c k zero at = tt
others_new c k (suc n) at = (ap is_some (new_name k k (omega arith)), others_new c (suc k) n _)

pub dimensions_new : (c : Class) (n at : ℕ) → AreNew [] ((dimensions c n).tree at)
unfolding dimensions
dimensions_new c zero at = tt
dimensions_new c (suc n) at = (ap is_some (new_name 0 0 (omega arith)), others_new c 1 n _)

others_named : (c : Class) (k n at : ℕ) → with_others (names_to k) ((others (declared_from c k n)).tree at) ≡ names_to (k + n)
others_named c k zero at = let e : k ≡ k + 0 = omega arith in ap names_to e
others_named c k (suc n) at = let e : suc k + n ≡ k + suc n = omega arith in others_named c (suc k) n _ ∙ ap names_to e

pub dimensions_named : (c : Class) (n at : ℕ) → with_names [] ((dimensions c n).tree at) ≡ names_to n
unfolding dimensions
dimensions_named c zero at = refl
dimensions_named c (suc n) at = let e : 1 + n ≡ suc n = omega arith in others_named c 1 n _ ∙ ap names_to e
