-- The digits of a number of any size. (The library's `decimal` has 64 digits at most.)
use Rattle.std.specs.Prelude.{ℕ, zero, suc, ◌+◌, ◌/◌, ◌%◌, List, [], ◌∷◌, ◌++◌, nat_lt, if◌then◌else◌}

-- the last digits of n, at most so many
abbrev pub digits_in : ℕ → ℕ → List ℕ
digits_in zero n = []
digits_in (suc most) n = if nat_lt n 10 then (48 + n) ∷ [] else digits_in most (n / 10) ++ ((48 + n % 10) ∷ [])

-- the digits of n, with no leading zero
unfoldable pub numeral : ℕ → List ℕ
numeral n = digits_in (suc n) n
