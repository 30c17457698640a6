-- Numerals: what they are made of, which number they write, and that a short one is the library's.
use Rattle.std.proofs.Common.{◌≡◌, ◌<◌, ◌≤◌, ◌^◌, ◌/◌, ◌%◌, ◌*◌, ℕ, zero, suc, ◌+◌, Bool, true, false, cond, List, [], ◌∷◌, ◌++◌, length, length-append, refl, sym, ap, ◌∙◌, arith, decimal, nat_lt}
use Rattle.std.specs.Str.Parse.{AllDigits, IsNumeral, digits_value, digits_value_after}
use Rattle.std.specs.Char.{digit_value}
use Rattle.std.proofs.lemmas.Bool.{cond-true, cond-false, ltb-true, ltb-false, lt-ltb, le-ltb}
use Rattle.std.proofs.lemmas.Str.{digit_value_digit}
use Rattle.std.proofs.lemmas.Fmt.{decimal_by_steps}
use Rattle.text_format.specs.Numerals.{digits_in, numeral}

abbrev last : ℕ → List ℕ
last n = (48 + n % 10) ∷ []

same_step : (n : ℕ) (xs ys : List ℕ) (t : Bool) → nat_lt n 10 ≡ t → (10 ≤ n → xs ≡ ys) → cond t ((48 + n) ∷ []) (xs ++ last n) ≡ cond t ((48 + n) ∷ []) (ys ++ last n)
same_step n xs ys true e h = refl
same_step n xs ys false e h = ap (λ (ds : List ℕ). ds ++ last n) (h (ltb-false n 10 e))

-- enough is enough
same_digits : (k j n : ℕ) → n < k → n < j → digits_in k n ≡ digits_in j n
same_digits zero j n a b = absurd (omega arith)
same_digits (suc k) zero n a b = absurd (omega arith)
same_digits (suc k) (suc j) n a b = same_step n (digits_in k (n / 10)) (digits_in j (n / 10)) (nat_lt n 10) refl (λ l. same_digits k j (n / 10) (omega (arith, l, a)) (omega (arith, l, b)))

pub numeral_one : (n : ℕ) → n < 10 → numeral n ≡ (48 + n) ∷ []
unfolding numeral
numeral_one n small = cond-true (nat_lt n 10) _ _ (lt-ltb n 10 small)

pub numeral_more : (n : ℕ) → 10 ≤ n → numeral n ≡ numeral (n / 10) ++ last n
unfolding numeral
numeral_more n large =
    cond-false (nat_lt n 10) _ _ (le-ltb n 10 large)
    ∙ ap (λ (ds : List ℕ). ds ++ last n) (same_digits n (suc (n / 10)) (n / 10) (omega (arith, large)) (omega arith))

module _ (P : ℕ → List ℕ → Type 0) (one : (n : ℕ) → n < 10 → P n ((48 + n) ∷ [])) (more : (n : ℕ) (ds : List ℕ) → 10 ≤ n → P (n / 10) ds → P n (ds ++ last n)) where
  digits_step : (n : ℕ) (ds : List ℕ) (t : Bool) → nat_lt n 10 ≡ t → (10 ≤ n → P (n / 10) ds) → P n (cond t ((48 + n) ∷ []) (ds ++ last n))
  digits_step n ds true e h = one n (ltb-true n 10 e)
  digits_step n ds false e h = let l = ltb-false n 10 e in more n ds l (h l)

  digits_by : (k n : ℕ) → n < k → P n (digits_in k n)
  digits_by zero n h = absurd (omega arith)
  digits_by (suc k) n h = digits_step n (digits_in k (n / 10)) (nat_lt n 10) refl (λ l. digits_by k (n / 10) (omega (arith, l, h)))

  -- what holds of one digit, and goes on to one more, holds of each numeral
  pub numeral_by_steps : (n : ℕ) → P n (numeral n)
  unfolding numeral
  numeral_by_steps n = digits_by (suc n) n (omega arith)

-- a short numeral is what the library writes
pub numeral_is_decimal : (n : ℕ) → n < 2 ^ 64 → numeral n ≡ decimal n
numeral_is_decimal n small = decimal_by_steps (λ m ds. numeral m ≡ ds) (λ m l. numeral_one m l) (λ m ds l h. numeral_more m l ∙ ap (λ (xs : List ℕ). xs ++ last m) h) n small

-- ---- digits

all_digits_more : (ds : List ℕ) (c : ℕ) → AllDigits 10 ds → digit_value c < 10 → AllDigits 10 (ds ++ (c ∷ []))
all_digits_more [] c h d = (d, tt)
all_digits_more (b ∷ ds) c h d = (h.0, all_digits_more ds c h.1 d)

value_more : (n : ℕ) (ds : List ℕ) (c : ℕ) → digits_value_after 10 n (ds ++ (c ∷ [])) ≡ digits_value_after 10 n ds * 10 + digit_value c
value_more n [] c = refl
value_more n (b ∷ ds) c = value_more (n * 10 + digit_value b) ds c

digit_of : (n : ℕ) → n < 10 → digit_value (48 + n) ≡ n
digit_of n h = let d = digit_value_digit (48 + n) (omega (arith, h)) in omega (arith, d)

abbrev Writes : ℕ → List ℕ → Type 0
Writes n ds = IsNumeral 10 ds × (digits_value 10 ds ≡ n)

writes_one : (n : ℕ) → n < 10 → Writes n ((48 + n) ∷ [])
writes_one n h = let d = digit_of n h in ((omega arith, (omega (arith, d, h), tt)), omega (arith, d))

writes_more : (n : ℕ) (ds : List ℕ) → 10 ≤ n → Writes (n / 10) ds → Writes n (ds ++ last n)
writes_more n ds large h =
    let d = digit_of (n % 10) (omega arith) in
    let e = value_more 0 ds (48 + n % 10) in
    ((omega (arith, length-append ds (last n)), all_digits_more ds (48 + n % 10) h.0.1 (omega (arith, d))), omega (arith, e, d, h.1))

-- A numeral has digits alone, and writes its number.
pub numeral_writes : (n : ℕ) → IsNumeral 10 (numeral n) × (digits_value 10 (numeral n) ≡ n)
numeral_writes n = numeral_by_steps Writes writes_one writes_more n

pub numeral_some : (n : ℕ) → 0 < length (numeral n)
numeral_some n = (numeral_writes n).0.0

pub numeral_injective : (m n : ℕ) → numeral m ≡ numeral n → m ≡ n
numeral_injective m n e = sym (numeral_writes m).1 ∙ ap (digits_value 10) e ∙ (numeral_writes n).1
