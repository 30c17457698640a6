-- Laws of signed numbers and of tests.
use Rattle.std.proofs.Common.{◌≡◌, ℕ, ◌+◌, ◌*◌, ◌<◌, ◌≤◌, ℤ, pos, negsuc, ◌+ℤ◌, ◌-ℤ◌, ◌*ℤ◌, ◌≤ℤ◌, ◌<ℤ◌, int_le, int_div, nat_lt, Bool, true, false, ◌&&◌, IsTrue, FitsSigned, w64, refl, sym, arith, unsigned_abs, suc, zero}
use Rattle.std.proofs.lemmas.Int.{ints, unsigned_abs-mul}
use Rattle.std.proofs.lemmas.Nat.{mul-le, le-div}
use Rattle.std.proofs.lemmas.Bool.Decides.{nat_tests}
use Rattle.std.proofs.Math.Nat.{mul-le-mul_left, mul-le-mul_right}
use borrow.Author.Differences.{up, down}
use Rattle.index_forms.specs.Limit.{in_limit}

pub and_left : (a b : Bool) → IsTrue (a && b) → IsTrue a
and_left true b h = refl
and_left false b h = h

pub and_right : (a b : Bool) → IsTrue (a && b) → IsTrue b
and_right true b h = h
and_right false b h = cc

pub and_both : (a b : Bool) → IsTrue a → IsTrue b → IsTrue (a && b)
and_both true b h k = k
and_both false b h k = h

-- two numbers are in one of three orders
pub split_lt : (P : Bool → Bool → Type 0) (a b : ℕ) → (a < b → P true false) → (b < a → P false true) → (a ≡ b → P false false) → P (nat_lt a b) (nat_lt b a)
split_lt P a b less more same = split_at (nat_lt a b) (nat_lt b a) refl refl where
  split_at : (x y : Bool) → nat_lt a b ≡ x → nat_lt b a ≡ y → P x y
  split_at true true p q = absurd (grind (arith, nat_tests))
  split_at true false p q = less (grind (arith, nat_tests))
  split_at false true p q = more (grind (arith, nat_tests))
  split_at false false p q = same (grind (arith, nat_tests))

pub limit_low : (z : ℤ) → IsTrue (in_limit z) → negsuc 4611686018427387903 ≤ℤ z
limit_low z h = let k = and_left (int_le (negsuc 4611686018427387903) z) (int_le z (pos 4611686018427387904)) h in omega (arith, ints)

pub limit_high : (z : ℤ) → IsTrue (in_limit z) → z ≤ℤ pos 4611686018427387904
limit_high z h = let k = and_right (int_le (negsuc 4611686018427387903) z) (int_le z (pos 4611686018427387904)) h in omega (arith, ints)

pub limit_in : (z : ℤ) → negsuc 4611686018427387903 ≤ℤ z → z ≤ℤ pos 4611686018427387904 → IsTrue (in_limit z)
limit_in z h k = and_both (int_le (negsuc 4611686018427387903) z) (int_le z (pos 4611686018427387904)) (sym (omega (arith, ints))) (sym (omega (arith, ints)))

pub limit_abs : (z : ℤ) → IsTrue (in_limit z) → unsigned_abs z ≤ 4611686018427387904
limit_abs (pos n) h = let k = limit_high (pos n) h in omega (arith, ints)
limit_abs (negsuc n) h = let k = limit_low (negsuc n) h in omega (arith, ints)

pub fits_abs : (z : ℤ) → FitsSigned w64 z → unsigned_abs z ≤ 9223372036854775808
fits_abs (pos n) h = omega (arith, ints)
fits_abs (negsuc n) h = omega (arith, ints)

pub product_abs : (a b : ℤ) → FitsSigned w64 a → FitsSigned w64 b → unsigned_abs (a *ℤ b) ≤ 85070591730234615865843651857942052864
product_abs a b h k = let e = unsigned_abs-mul a b in let m = mul-le _ _ _ _ (fits_abs a h) (fits_abs b k) in omega arith

pub mul_le_pos : (a b c : ℤ) → pos 0 ≤ℤ a → b ≤ℤ c → (a *ℤ b) ≤ℤ (a *ℤ c)
mul_le_pos (pos a) b c p h =
    let g : up b + down c ≤ up c + down b = omega (arith, ints) in
    let e = mul-le-mul_left a g in omega (arith, ints)
mul_le_pos (negsuc a) b c p h = absurd (omega (arith, ints))

pub mul_le_neg : (a b c : ℤ) → a ≤ℤ pos 0 → b ≤ℤ c → (a *ℤ c) ≤ℤ (a *ℤ b)
mul_le_neg (pos zero) b c p h = omega (arith, ints)
mul_le_neg (pos (suc a)) b c p h = absurd (omega (arith, ints))
mul_le_neg (negsuc a) b c p h =
    let g : up b + down c ≤ up c + down b = omega (arith, ints) in
    let e = mul-le-mul_left (suc a) g in omega (arith, ints)

-- the last of the numbers l, l + s, .. below u
pub last_below : (l u s v : ℤ) (j : ℕ) → pos 0 <ℤ s → v ≡ l +ℤ pos j *ℤ s → v <ℤ u → v ≤ℤ (l +ℤ int_div (u -ℤ l -ℤ pos 1) s *ℤ s)
last_below l u (pos s) v j p e h = last_at (u -ℤ l -ℤ pos 1) refl where
  last_at : (d : ℤ) → u -ℤ l -ℤ pos 1 ≡ d → v ≤ℤ (l +ℤ int_div d (pos s) *ℤ pos s)
  last_at (pos n) q =
      let k : j * s ≤ n = omega (arith, ints) in
      let z : 0 < s = omega (arith, ints) in
      let m = mul-le-mul_right s (le-div j n s z k) in omega (arith, ints)
  last_at (negsuc n) q = absurd (omega (arith, ints))
last_below l u (negsuc s) v j p e h = absurd (omega (arith, ints))
