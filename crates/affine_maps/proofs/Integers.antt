-- Laws of signed numbers.
use Rattle.std.proofs.Common.{◌≡◌, ℕ, ◌+◌, ◌*◌, ◌≤◌, ◌^◌, ℤ, ◌+ℤ◌, ◌*ℤ◌, FitsSigned, w64, IsTrue, ap, ◌∙◌, ◌<◌, to_z, of_z, arith, unsigned_abs, pos, negsuc}
use Rattle.std.proofs.lemmas.Int.{ints, unsigned_abs-mul, to_z-of_z, fits_signed_from_abs}
use mir.Syntax.{w128}
use Rattle.std.proofs.lemmas.Nat.{mul-le}
use Rattle.std.proofs.lemmas.Bool.Decides.{nat_tests}
use borrow.Author.Differences.{up, down, product_is, sum_is_lem}
use Rattle.mlir_base.specs.Numbers.{is_in_range}

pub mul_over_add : (a b c : ℤ) → (a +ℤ b) *ℤ c ≡ a *ℤ c +ℤ b *ℤ c
mul_over_add a b c =
    let e = ap (λ (n : ℕ). n * up c) (sum_is_lem a b) in
    let f = ap (λ (n : ℕ). n * down c) (sum_is_lem a b) in
    omega (arith, ints)

pub add_over_mul : (a b c : ℤ) → a *ℤ (b +ℤ c) ≡ a *ℤ b +ℤ a *ℤ c
add_over_mul a b c =
    let e = ap (λ (n : ℕ). n * up a) (sum_is_lem b c) in
    let f = ap (λ (n : ℕ). n * down a) (sum_is_lem b c) in
    omega (arith, ints)

pub mul_assoc : (a b c : ℤ) → (a *ℤ b) *ℤ c ≡ a *ℤ (b *ℤ c)
mul_assoc a b c =
    let p = product_is a b in
    let q = product_is b c in
    let e = ap (λ (n : ℕ). n * up c) p.0 in
    let f = ap (λ (n : ℕ). n * down c) p.0 in
    let g = ap (λ (n : ℕ). n * up c) p.1 in
    let h = ap (λ (n : ℕ). n * down c) p.1 in
    let i = ap (λ (n : ℕ). n * up a) q.0 in
    let j = ap (λ (n : ℕ). n * down a) q.0 in
    let k = ap (λ (n : ℕ). n * up a) q.1 in
    let l = ap (λ (n : ℕ). n * down a) q.1 in
    omega (arith, ints)

pub range_abs : (z : ℤ) → IsTrue (is_in_range z) → unsigned_abs z ≤ 2 ^ 31
range_abs z h = grind (arith, nat_tests)

pub product_abs : (a b : ℤ) (m n : ℕ) → unsigned_abs a ≤ m → unsigned_abs b ≤ n → unsigned_abs (a *ℤ b) ≤ m * n
product_abs a b m n h k = let e = unsigned_abs-mul a b in let f = mul-le _ _ _ _ h k in omega arith

pub sum_abs : (a b : ℤ) (m n : ℕ) → unsigned_abs a ≤ m → unsigned_abs b ≤ n → unsigned_abs (a +ℤ b) ≤ m + n
sum_abs (pos a) (pos b) m n h k = omega (arith, ints)
sum_abs (pos a) (negsuc b) m n h k = omega (arith, ints)
sum_abs (negsuc a) (pos b) m n h k = omega (arith, ints)
sum_abs (negsuc a) (negsuc b) m n h k = omega (arith, ints)

-- an i64 as an i128
pub wide : (z : ℤ) → FitsSigned w64 z → to_z w128 (of_z w128 (to_z w64 (of_z w64 z))) ≡ z
wide z f = omega (arith, ints)

pub fits_abs : (z : ℤ) → FitsSigned w64 z → unsigned_abs z ≤ 2 ^ 63
fits_abs (pos n) h = omega (arith, ints)
fits_abs (negsuc n) h = omega (arith, ints)

-- a sum of i64 numbers in an i128
pub wide_sum : (s r : ℤ) → FitsSigned w64 r → FitsSigned w128 (s +ℤ r) → to_z w128 (of_z w128 (s +ℤ to_z w128 (of_z w128 (to_z w64 (of_z w64 r))))) ≡ s +ℤ r
wide_sum s r g f = ap (λ (x : ℤ). to_z w128 (of_z w128 (s +ℤ x))) (wide r g) ∙ to_z-of_z w128 (s +ℤ r) f

pub sum_fits : (s r : ℤ) (m : ℕ) → FitsSigned w64 r → unsigned_abs s ≤ m → m < 2 ^ 126 → FitsSigned w128 (s +ℤ r)
sum_fits s r m f h k = let a = sum_abs s r m 9223372036854775808 h (fits_abs r f) in fits_signed_from_abs w128 (s +ℤ r) (omega arith)
