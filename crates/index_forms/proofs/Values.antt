-- The values of terms.
use Rattle.std.proofs.Common.{◌≡◌, ℕ, ℤ, pos, negsuc, ◌+ℤ◌, ◌*ℤ◌, List, [], ◌∷◌, refl, arith, suc, zero}
use Rattle.std.proofs.lemmas.Int.{ints}
use Rattle.index_forms.specs.Forms.{terms_value, keep, scaled}
use Rattle.affine_maps.proofs.Integers.{add_over_mul, mul_assoc}

module _ (env : ℕ → ℤ) where
  pub value-keep : (k : ℕ) (n : ℤ) (ts : List (ℕ × ℤ)) → terms_value (keep k n ts) env ≡ (n *ℤ env k) +ℤ terms_value ts env
  value-keep k (pos zero) ts = omega (arith, ints)
  value-keep k (pos (suc n)) ts = refl
  value-keep k (negsuc n) ts = refl

  pub value-scaled : (c : ℤ) (ts : List (ℕ × ℤ)) → terms_value (scaled c ts) env ≡ c *ℤ terms_value ts env
  value-scaled c [] = omega (arith, ints)
  value-scaled c (t ∷ ts) =
      let e = value-scaled c ts in
      let a = mul_assoc c t.1 (env t.0) in
      let d = add_over_mul c (t.1 *ℤ env t.0) (terms_value ts env) in
      shuffle _ _ _ _ _ a d e where
        shuffle : (p q r s t : ℤ) → p ≡ q → r ≡ q +ℤ s → t ≡ s → p +ℤ t ≡ r
        shuffle p q r s t a d e = omega (arith, ints)
