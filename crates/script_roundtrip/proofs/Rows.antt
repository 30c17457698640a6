-- The names of handles, and which are small.
use Rattle.std.proofs.Common.{◌≡◌, ◌<◌, ◌≤◌, ◌^◌, ℕ, zero, suc, ◌+◌, Bool, true, false, cond, not, ◌||◌, List, [], ◌∷◌, ◌++◌, Option, Some, None, refl, sym, ap, subst, ◌∙◌, arith, codes, decimal, nat_eq, nat_le, nat_lt}
use Rattle.std.specs.List.{AllByRecursion}
use Rattle.std.specs.Fmt.{digits}
use Rattle.std.specs.Str.Parse.{AllDigits}
use Rattle.std.proofs.lemmas.Bool.{ne_eqb, and_parts, leb-true, leb-false, cond-true}
use Rattle.std.proofs.lemmas.Fmt.{decimal_is_IsNumeral, digits_decimal, digits_value-decimal}
use Rattle.std.proofs.lemmas.Str.Parse.{IsNumeralModel, numerals_by_fold, tells_digits, digit_from_value}
use Rattle.text_format.specs.Classes.{is_numbered}
use Rattle.text_format.specs.Numerals.{numeral}
use Rattle.text_format.specs.Types.{width_of}
use Rattle.text_format.proofs.Numerals.{numeral_writes}
use Rattle.script_read.specs.declared.script.HandleId.{HandleId}
use Rattle.script_read.specs.Numbers.{number_from, number_of}
use Rattle.script_text.specs.declared.names.Given.{Given}
use Rattle.script_text.specs.declared.names.Given.TheVariants.{Root, Single, Part}
use Rattle.script_text.specs.declared.names.Row.{Row}
use Rattle.script_text.specs.Names.{row, or_before, look, start, parts, rows_of}

-- ---- numbers

number_model : IsNumeralModel (AllDigits 10) (number_from 0)
number_model = numerals_by_fold (AllDigits 10) tells_digits number_from (record { empty = λ n. refl; more = λ n c cs r. refl })

-- a number that was written is read
pub number_read : (n : ℕ) → n < 2 ^ 64 → number_of (decimal n) ≡ n
number_read n s = digits_value-decimal number_model n s

-- and so is a numeral of any size
pub numeral_read : (n : ℕ) → number_of (numeral n) ≡ n
numeral_read n = let w = numeral_writes n in number_model.same (numeral n) w.0.1 ∙ w.1

no_sign_digits : (ds : List ℕ) → AllDigits 10 ds → is_numbered ds ≡ false
no_sign_digits [] a = refl
no_sign_digits (d ∷ ds) a =
    let r = digit_from_value d a.0 in
    let lo = r.0 in
    let e : nat_eq d 35 ≡ false = ne_eqb d 35 (λ q. absurd (omega (arith, q, lo))) in
    ap (λ b. b || is_numbered ds) e ∙ no_sign_digits ds a.1

-- digits have no #
pub no_sign : (n : ℕ) → n < 2 ^ 64 → is_numbered (decimal n) ≡ false
no_sign n s = no_sign_digits (decimal n) (decimal_is_IsNumeral n s).0.1

pub new_name : (n : ℕ) → n < 2 ^ 64 → not (is_numbered (codes "%" ++ decimal n)) ≡ true
new_name n s = ap not (no_sign n s)

-- ---- what holds of each width

abbrev all_up_to : (ℕ → Bool) → ℕ → Bool
all_up_to p zero = true
all_up_to p (suc n) = cond (p (suc n)) (all_up_to p n) false

up_parts : (b c : Bool) → cond b c false ≡ true → (b ≡ true) × (c ≡ true)
up_parts true c h = (refl, h)
up_parts false c h = absurd (cc h)

up_step : (p : ℕ → Bool) (n k : ℕ) (b : Bool) → nat_le k n ≡ b → p (suc n) ≡ true → (k ≤ n → p k ≡ true) → k ≤ suc n → p k ≡ true
up_step p n k true e h f hi = f (leb-true k n e)
up_step p n k false e h f hi = let l = leb-false k n e in let same : k ≡ suc n = omega arith in ap p same ∙ h

up_to : (p : ℕ → Bool) (n k : ℕ) → all_up_to p n ≡ true → 0 < k → k ≤ n → p k ≡ true
up_to p zero k h lo hi = absurd (omega arith)
up_to p (suc n) k h lo hi = let q = up_parts (p (suc n)) (all_up_to p n) h in up_step p n k (nat_le k n) refl q.0 (λ le. up_to p n k q.1 lo le) hi

abbrev is_that : Option ℕ → ℕ → Bool
is_that None w = false
is_that (Some v) w = cond (nat_le v w) (nat_le w v) false

that : (o : Option ℕ) (w : ℕ) → is_that o w ≡ true → o ≡ Some w
that None w h = absurd (cc h)
that (Some v) w h = let p = up_parts (nat_le v w) (nat_le w v) h in let a = leb-true v w p.0 in let b = leb-true w v p.1 in let e : v ≡ w = omega arith in ap (λ x. Some x) e

-- the text of an integer type reads as its width
pub width_read : (w : ℕ) → 0 < w → w ≤ 64 → width_of (codes "i" ++ decimal w) ≡ Some w
unfolding digits
width_read w lo hi = that (width_of (codes "i" ++ decimal w)) w (up_to (λ v. is_that (width_of (codes "i" ++ decimal v)) v) 64 w refl lo hi)

-- ---- rows

abbrev pub IsSmall : Given → Type 0
IsSmall Root = Unit {0}
IsSmall (Single n) = n < 2 ^ 64
IsSmall (Part n k) = n < 2 ^ 64

abbrev pub AreSmall : List Row → Type 0
AreSmall rows = AllByRecursion (λ r. IsSmall r.name) rows

small_if : (b : Bool) (x r : Row) → IsSmall x.name → cond b (Some x) None ≡ Some r → IsSmall r.name
small_if true x r s h = let e : x ≡ r = cc h in subst (λ (y : Row). IsSmall y.name) e s
small_if false x r s h = absurd (cc h)

small_or : (o p : Option Row) (r : Row) → (o ≡ Some r → IsSmall r.name) → (p ≡ Some r → IsSmall r.name) → or_before o p ≡ Some r → IsSmall r.name
small_or (Some x) p r f g h = f h
small_or None p r f g h = g h

pub look_small : (rows : List Row) (v : ℕ) (r : Row) → AreSmall rows → look rows v ≡ Some r → IsSmall r.name
look_small [] v r s h = absurd (cc h)
look_small (x ∷ rows) v r s h = small_or (look rows v) (cond (nat_eq x.handle v) (Some x) None) r (λ k. look_small rows v r s.1 k) (λ k. small_if (nat_eq x.handle v) x r s.0 k) h

pub small_append : (xs ys : List Row) → AreSmall xs → AreSmall ys → AreSmall (xs ++ ys)
small_append [] ys s t = t
small_append (x ∷ xs) ys s t = (s.0, small_append xs ys s.1 t)

parts_small : (n k : ℕ) (hs : List HandleId) → n < 2 ^ 64 → AreSmall (parts n k hs)
parts_small n k [] s = tt
parts_small n k (h ∷ hs) s = (s, parts_small n (k + 1) hs s)

pub rows_small : (n : ℕ) (hs : List HandleId) → n < 2 ^ 64 → AreSmall (rows_of n hs)
rows_small n [] s = tt
rows_small n (h ∷ []) s = (s, tt)
rows_small n (h ∷ (g ∷ hs)) s = parts_small n 0 (h ∷ (g ∷ hs)) s
