-- Numbers in order, the first of them, and those that aren't named.
use Rattle.std.proofs.Common.{◌≡◌, ℕ, suc, ◌+◌, ◌-◌, ◌<◌, Bool, true, false, List, [], ◌∷◌, ◌++◌, refl, ap, arith}
use Rattle.std.specs.Prelude.{if◌then◌else◌}
use Rattle.mlir_meaning.specs.Grids.{count_up}
use Rattle.mlir_meaning.specs.Points.{has, kept}

count-suc : (i n m : ℕ) → n ≡ suc m → count_up i n ≡ i ∷ count_up (i + 1) m
count-suc i n m e = ap (count_up i) e

-- the first of the numbers from i up to n
pub count_first : (i n : ℕ) → i < n → count_up i (n - i) ≡ i ∷ count_up (i + 1) (n - (i + 1))
count_first i n below = count-suc i (n - i) (n - (i + 1)) (omega (arith, below))

pub kept_first : (named : List ℕ) (k : ℕ) (rest : List ℕ) → kept named k (k ∷ rest) ≡ kept named k (k ∷ []) ++ kept named (k + 1) rest
kept_first named k rest = by_test (has named k) where
  by_test : (b : Bool) → (if b then kept named (k + 1) rest else k ∷ kept named (k + 1) rest) ≡ (if b then [] else k ∷ []) ++ kept named (k + 1) rest
  by_test true = refl
  by_test false = refl
