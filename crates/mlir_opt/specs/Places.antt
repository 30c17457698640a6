-- The line and the column of a byte, both from 1 and counted in bytes.
use Rattle.std.specs.Prelude.{ℕ, ◌+◌, ◌==◌, List, length, count_by, take_while, reverse, Bool, if◌then◌else◌, true, false}

-- the line of the byte after these: one more than the line feeds before it
abbrev pub line_after : List ℕ → ℕ
line_after bytes = 1 + count_by (λ b. b == 10) bytes

abbrev pub is_in_line : ℕ → Bool
is_in_line b = if b == 10 then false else true

-- the column of the byte after these: one more than the bytes since the last line feed
abbrev pub column_after : List ℕ → ℕ
column_after bytes = 1 + length (take_while is_in_line (reverse bytes))
