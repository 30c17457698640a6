-- The bytes of an ASCII text.
use Rattle.std.proofs.Common.{◌≡◌, ◌<◌, ℕ, zero, suc, true, List, [], ◌∷◌, arith, All}
use Rattle.std.specs.List.{list_all}
use Rattle.std.proofs.lemmas.Bool.{and_parts, ltb-true}
use Rattle.mlir_read.specs.Resolve.{is_ascii}

pub ascii_all : (xs : List ℕ) → list_all is_ascii xs ≡ true → All (λ b. b < 128) xs
ascii_all [] e k d l = absurd (omega arith)
ascii_all (x ∷ xs) e zero d l = ltb-true x 128 (and_parts _ _ e).0
ascii_all (x ∷ xs) e (suc k) d l = ascii_all xs (and_parts _ _ e).1 k d (omega arith)
