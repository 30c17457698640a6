-- The line and the column after one more byte.
use Rattle.std.proofs.Common.{◌≡◌, ◌∙◌, ℕ, ◌+◌, ◌==◌, List, [], ◌∷◌, ◌++◌, true, false, arith, refl, ap, length, reverse}
use Rattle.std.proofs.lemmas.List.{reverse-append}
use Rattle.std.proofs.lemmas.List.Sums.{take_while-cons}
use Rattle.std.specs.Prelude.{take_while}
use Rattle.mlir_opt.specs.Places.{column_after, is_in_line}

-- a line feed ends the line, and any other byte is one more in it
in_line_feed : (rest : List ℕ) (b : ℕ) → (b == 10) ≡ true → length (take_while is_in_line (b ∷ rest)) ≡ 0
in_line_feed rest b feed = rw (take_while-cons is_in_line b rest, feed) refl

in_line_byte : (rest : List ℕ) (b : ℕ) → (b == 10) ≡ false → length (take_while is_in_line (b ∷ rest)) ≡ length (take_while is_in_line rest) + 1
in_line_byte rest b other = rw (take_while-cons is_in_line b rest, other) (omega arith)

-- after a line feed the column is 1
pub column_at_feed : (bytes : List ℕ) (b : ℕ) → (b == 10) ≡ true → column_after (bytes ++ b ∷ []) ≡ 1
column_at_feed bytes b feed = ap (λ back. 1 + length (take_while is_in_line back)) (reverse-append bytes (b ∷ [])) ∙ ap (λ n. 1 + n) (in_line_feed (reverse bytes) b feed)

one_more : (n : ℕ) → 1 + (n + 1) ≡ 1 + n + 1
one_more n = omega arith

-- after any other byte it is one more
pub column_at_byte : (bytes : List ℕ) (b : ℕ) → (b == 10) ≡ false → column_after (bytes ++ b ∷ []) ≡ column_after bytes + 1
column_at_byte bytes b other = ap (λ back. 1 + length (take_while is_in_line back)) (reverse-append bytes (b ∷ [])) ∙ ap (λ n. 1 + n) (in_line_byte (reverse bytes) b other) ∙ one_more (length (take_while is_in_line (reverse bytes)))
