-- Numerals, as `parse` reads them.
use Rattle.std.proofs.Common.{◌≡◌, ◌≢◌, ◌∙◌, ◌+◌, ◌*◌, ◌<◌, ◌≤◌, ◌^◌, ◌==◌, ◌&&◌, ℕ, Bool, cond, true, false, not, refl, sym, ap, ap₂, subst, true≢false, List, [], ◌∷◌, length, get_or, Some, None, arith, nat_le}
use Rattle.std.specs.List.{list_all}
use Rattle.std.specs.Int.{IsInRange}
use Rattle.std.specs.Char.{digit_value}
use Rattle.std.specs.Str.Parse.{AllDigits, IsNumeral, digits_value, digits_value_after, without_leading_plus}
use Rattle.std.proofs.lemmas.Bool.Decides.{nat_tests}
use Rattle.std.proofs.lemmas.Str.{digit_value_digit}
use Rattle.std.proofs.lemmas.Str.Parse.{digit_from_value}
use Rattle.mlir_words.specs.Request.{is_digit, number_of}

digit_in : (c : ℕ) → digit_value c < 10 → is_digit c ≡ true
digit_in c below = go c (digit_from_value c below)
  where
    go : (c : ℕ) → IsInRange 48 57 c → is_digit c ≡ true
    go c range = let low : 48 ≤ c = range.0 in let high : c ≤ 57 = range.1 in grind (arith, nat_tests)

digit_of : (c : ℕ) → is_digit c ≡ true → digit_value c < 10
digit_of c is =
    let low : 48 ≤ c = grind (arith, nat_tests) in
    let high : c ≤ 57 = grind (arith, nat_tests) in
    let range : IsInRange 48 57 c = (low, high) in
    omega (arith, digit_value_digit c range)

both : (a b : Bool) → (a && b) ≡ true → (a ≡ true) × (b ≡ true)
both true b h = (refl, h)
both false b h = absurd (true≢false (sym h))

digits_in : (ds : List ℕ) → AllDigits 10 ds → list_all is_digit ds ≡ true
digits_in [] all = refl
digits_in (d ∷ ds) all = ap₂ (λ a b. a && b) (digit_in d all.0) (digits_in ds all.1)

digits_of : (ds : List ℕ) → list_all is_digit ds ≡ true → AllDigits 10 ds
digits_of [] all = tt
digits_of (d ∷ ds) all = let parts = both (is_digit d) (list_all is_digit ds) all in (digit_of d parts.0, digits_of ds parts.1)

not_zero : (b : ℕ) → 49 ≤ b → (b == 48) ≡ false
not_zero b low = grind (arith, nat_tests)

is_small : (n : ℕ) → n ≤ 64 → nat_le n 64 ≡ true
is_small n small = grind (arith, nat_tests)

small_is : (n : ℕ) → nat_le n 64 ≡ true → n < 2 ^ 8
small_is n small = let below : n ≤ 64 = grind (arith, nat_tests) in omega arith

plain_front : (b : ℕ) (rest : List ℕ) → 49 ≤ b → without_leading_plus (b ∷ rest) ≡ b ∷ rest
plain_front b rest low = let other : (b == 43) ≡ false = grind (arith, nat_tests) in rw other refl

-- a number that `parse` reads behind a first digit other than 0
pub number_read : (bs : List ℕ) (n : ℕ) → 1 ≤ length bs → 49 ≤ get_or bs 0 0 → AllDigits 10 (without_leading_plus bs) → n ≡ digits_value 10 (without_leading_plus bs) → n ≤ 64 → Some n ≡ number_of bs
number_read [] n some low all is small = absurd (omega arith)
number_read (b ∷ rest) n some low all is small =
    let front : without_leading_plus (b ∷ rest) ≡ b ∷ rest = plain_front b rest low in
    let digits : list_all is_digit (b ∷ rest) ≡ true = digits_in (b ∷ rest) (subst (AllDigits 10) front all) in
    let value : n ≡ digits_value 10 (b ∷ rest) = is ∙ ap (digits_value 10) front in
    let nonzero : (b == 48) ≡ false = not_zero b low in
    let fits : nat_le (digits_value 10 (b ∷ rest)) 64 ≡ true = subst (λ m. nat_le m 64 ≡ true) value (is_small n small) in
    go (b == 48) (list_all is_digit (b ∷ rest)) (nat_le (digits_value 10 (b ∷ rest)) 64) nonzero digits fits value
  where
    go : (z d f : Bool) → z ≡ false → d ≡ true → f ≡ true → n ≡ digits_value 10 (b ∷ rest) → Some n ≡ cond ((not z && d) && f) (Some (digits_value 10 (b ∷ rest))) None
    go true d f nz ds fs is = absurd (true≢false nz)
    go false false f nz ds fs is = absurd (true≢false (sym ds))
    go false true false nz ds fs is = absurd (true≢false (sym fs))
    go false true true nz ds fs is = ap Some is

-- a text that it doesn't read is none
pub number_unread : (bs : List ℕ) → 1 ≤ length bs → 49 ≤ get_or bs 0 0 → ¬ (IsNumeral 10 (without_leading_plus bs) × (digits_value 10 (without_leading_plus bs) < 2 ^ 8)) → None ≡ number_of bs
number_unread [] some low unread = absurd (omega arith)
number_unread (b ∷ rest) some low unread =
    let front : without_leading_plus (b ∷ rest) ≡ b ∷ rest = plain_front b rest low in
    go (not (b == 48)) (list_all is_digit (b ∷ rest)) (nat_le (digits_value 10 (b ∷ rest)) 64) refl refl
    (subst (λ bs. ¬ (IsNumeral 10 bs × (digits_value 10 bs < 2 ^ 8))) front unread)
  where
    go : (z d f : Bool) → list_all is_digit (b ∷ rest) ≡ d → nat_le (digits_value 10 (b ∷ rest)) 64 ≡ f
        → ¬ (IsNumeral 10 (b ∷ rest) × (digits_value 10 (b ∷ rest) < 2 ^ 8)) → None ≡ cond ((z && d) && f) (Some (digits_value 10 (b ∷ rest))) None
    go false d f ds fs isnt = refl
    go true false f ds fs isnt = refl
    go true true false ds fs isnt = refl
    go true true true ds fs isnt =
        let below : digits_value 10 (b ∷ rest) < 2 ^ 8 = small_is (digits_value 10 (b ∷ rest)) fs in
        let numeral : IsNumeral 10 (b ∷ rest) = (omega arith, digits_of (b ∷ rest) ds) in
        absurd (isnt (numeral, below))

value_grows : (n : ℕ) (ds : List ℕ) → n ≤ digits_value_after 10 n ds
value_grows n [] = omega arith
value_grows n (d ∷ ds) = let more : n * 10 + digit_value d ≤ digits_value_after 10 (n * 10 + digit_value d) ds = value_grows (n * 10 + digit_value d) ds in omega arith

first_digit : (b : ℕ) → (b == 48) ≡ false → is_digit b ≡ true → 1 ≤ digit_value b
first_digit b nonzero digit =
    let low : 48 ≤ b = grind (arith, nat_tests) in
    let high : b ≤ 57 = grind (arith, nat_tests) in
    let other : b ≢ 48 = grind (arith, nat_tests) in
    let range : IsInRange 48 57 b = (low, high) in
    omega (arith, digit_value_digit b range)

small_of : (n : ℕ) → nat_le n 64 ≡ true → n ≤ 64
small_of n small = grind (arith, nat_tests)

-- what is read is a number from 1 to 64
pub number_in_range : (text : List ℕ) (n : ℕ) → number_of text ≡ Some n → (1 ≤ n) × (n ≤ 64)
number_in_range [] n is = cc
number_in_range (b ∷ rest) n is = go (b == 48) (is_digit b) (list_all is_digit rest) (nat_le (digits_value 10 (b ∷ rest)) 64) refl refl refl is
  where
    go : (z d ds f : Bool) → (b == 48) ≡ z → is_digit b ≡ d → nat_le (digits_value 10 (b ∷ rest)) 64 ≡ f → cond ((not z && (d && ds)) && f) (Some (digits_value 10 (b ∷ rest))) None ≡ Some n
        → (1 ≤ n) × (n ≤ 64)
    go true d ds f zs is fs e = cc
    go false false ds f zs is fs e = cc
    go false true false f zs is fs e = cc
    go false true true false zs is fs e = cc
    go false true true true zs is fs e =
        let same : digits_value 10 (b ∷ rest) ≡ n = cc in
        let one : 1 ≤ digit_value b = first_digit b zs is in
        let grown : 0 * 10 + digit_value b ≤ digits_value 10 (b ∷ rest) = value_grows (0 * 10 + digit_value b) rest in
        let low : 1 ≤ digits_value 10 (b ∷ rest) = omega arith in
        let P : ℕ → Type 0 = λ k. (1 ≤ k) × (k ≤ 64) in
        subst P same (low, small_of (digits_value 10 (b ∷ rest)) fs)
