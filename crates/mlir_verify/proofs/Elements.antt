-- Products that stop at a greatest number.
use Rattle.std.proofs.Common.{◌≡◌, ℕ, zero, suc, ◌*◌, ◌≤◌, min, arith, ap, sym, ◌∙◌, inl, inr, ◌⊎◌}
use Rattle.std.proofs.Math.Nat.{min-eq_left, min-eq_right, mul-le-mul_right, le-mul_of_pos_right}

by_size : (a b : ℕ) → (a ≤ b) ⊎ (b ≤ a)
by_size zero b = inl (omega arith)
by_size (suc a) zero = inr (omega arith)
by_size (suc a) (suc b) = elim (by_size a b) as (λ _. (suc a ≤ suc b) ⊎ (suc b ≤ suc a)) [ inl h ↦ inl (omega arith) | inr h ↦ inr (omega arith) ]

-- a factor more, where the product so far may have been stopped
pub stopped : (p c most : ℕ) → min (min p most * c) most ≡ min (p * c) most
stopped p zero most = omega arith
stopped p (suc c) most = elim (by_size p most) as (λ _. min (min p most * suc c) most ≡ min (p * suc c) most) [
  | inl h ↦ ap (λ n. min (n * suc c) most) (min-eq_left h)
  | inr h ↦
      let f : most * suc c ≤ p * suc c = mul-le-mul_right (suc c) h in
      let g : most ≤ most * suc c = le-mul_of_pos_right most (omega arith) in
      ap (λ n. min (n * suc c) most) (min-eq_right h) ∙ min-eq_right g ∙ sym (min-eq_right (omega arith))
]
