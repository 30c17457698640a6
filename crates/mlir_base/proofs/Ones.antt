-- The greatest value of a width, as a shift of the greatest word.
use Rattle.std.proofs.Common.{◌≡◌, ℕ, ◌+◌, ◌-◌, ◌/◌, ◌^◌, ◌≤◌, sym, ap, ◌∙◌, arith}
use Rattle.std.proofs.lemmas.Nat.{shr_high}
use lib.Pow.{ones_split, ones_lt}
use Rattle.mlir_base.specs.Types.{minus_one}

-- the w bits that are all 1, out of 64
pub shifted_ones : (w : ℕ) → w ≤ 64 → 18446744073709551615 / 2 ^ (64 - w) ≡ minus_one w
shifted_ones w h =
    let whole : w + (64 - w) ≡ 64 = omega arith in
    let split = ap (λ m. 2 ^ m - 1) (sym whole) ∙ ones_split w (64 - w) in
    ap (λ n. n / 2 ^ (64 - w)) split ∙ shr_high (2 ^ w - 1) (64 - w) (2 ^ (64 - w) - 1) (ones_lt (64 - w))
