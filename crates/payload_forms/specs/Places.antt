-- Where a number stands among others.
use Rattle.std.specs.Prelude.{ℕ, ◌+◌, ◌==◌, List, [], ◌∷◌, Option, Some, None, if◌then◌else◌}

-- the place of the first number that is n, counted from `start`
abbrev pub place_from : ℕ → List ℕ → ℕ → Option ℕ
place_from start [] n = None
place_from start (m ∷ ms) n = if m == n then Some start else place_from (start + 1) ms n
