-- The number of a tensor's elements, an axis at a time.
use Rattle.std.proofs.Common.{◌≡◌, ◌<◌, ◌≤◌, ◌^◌, ℕ, zero, suc, ◌+◌, ◌*◌, Bool, true, false, cond, List, length, drop, get_or, refl, sym, ap, ◌∙◌, arith, nat_le}
use Rattle.std.proofs.Math.Nat.{mul_assoc, mul-suc, mul-zero}
use Rattle.std.proofs.Math.Seq.{drop-cons}
use Rattle.std.proofs.lemmas.Bool.{lt-leb, leb-false}
use Rattle.mlir_ir.specs.declared.tree.Extent.{Extent}
use Rattle.mlir_scope.specs.Types.{counted, elements, least_elements}

at_most : (k n b : ℕ) → k ≤ n → k * b ≤ n * b
at_most k n zero h = let x = mul-zero k in omega (arith, x)
at_most k n (suc b) h =
    let x = mul-suc k b in
    let y = mul-suc n b in
    let r = at_most k n b h in
    omega (arith, x, y, r, h)

pub mul_small : (p n : ℕ) → p ≤ 4194305 → n < 2 ^ 32 → p * n < 2 ^ 64
mul_small p n h k = let r = at_most p 4194305 n h in omega (arith, r, k)

many_more : (m v : ℕ) → 4194304 < m → nat_le (m * suc v) 4194304 ≡ false
many_more m v h = let x = mul-suc m v in lt-leb (m * suc v) 4194304 (omega (arith, x, h))

past : (m v : ℕ) → 4194304 < m → nat_le (4194305 * v) 4194304 ≡ nat_le (m * v) 4194304
past m zero h = ap (λ n. nat_le n 4194304) (mul-zero 4194305 ∙ sym (mul-zero m))
past m (suc v) h = many_more 4194305 v (omega arith) ∙ sym (many_more m v h)

few_if : (b : Bool) (m v : ℕ) → nat_le m 4194304 ≡ b → nat_le (cond b m 4194305 * v) 4194304 ≡ nat_le (m * v) 4194304
few_if true m v e = refl
few_if false m v e = past m v (leb-false m 4194304 e)

pub elements_step : (xs : List Extent) (i p q : ℕ) (d : Extent) (total : Bool) → i < length xs → q ≡ least_elements (p * counted (get_or xs i d)) → nat_le (p * elements (drop i xs)) 4194304 ≡ total → nat_le (q * elements (drop (i + 1) xs)) 4194304 ≡ total
elements_step xs i p q d total h e t =
    let n = counted (get_or xs i d) in
    let z : i + 1 ≡ suc i = omega arith in
    let v = elements (drop (suc i) xs) in
    ap (λ j. nat_le (q * elements (drop j xs)) 4194304) z ∙ ap (λ x. nat_le (x * v) 4194304) e ∙ few_if (nat_le (p * n) 4194304) (p * n) v refl
    ∙ ap (λ x. nat_le x 4194304) (mul_assoc p n v) ∙ sym (ap (λ ys. nat_le (p * elements ys) 4194304) (drop-cons xs i d h)) ∙ t
