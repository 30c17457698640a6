-- Boxes that hold others at 0, boxes without points, and the coordinates of some of the dimensions.
use Rattle.std.specs.Prelude.{ℕ, ◌≤◌, List, [], ◌∷◌, map, ⊤, ◌≡◌, ◌<◌, length, slice_index}

-- coordinate by coordinate at most
abbrev pub Grows : List ℕ → List ℕ → Type 0
Grows [] [] = ⊤
Grows (e ∷ es) (n ∷ ns) = (e ≤ n) × Grows es ns
Grows _ _ = ⊥

-- the point that has 0 on each dimension
abbrev pub zeros : List ℕ → List ℕ
zeros es = map (λ _. 0) es

-- the box has no points
abbrev pub NoPoints : List ℕ → Type 0
NoPoints box = (d : ℕ) × (d < length box) × (slice_index box d ≡ 0)

-- the coordinates of a point on these dimensions
abbrev pub picks : List ℕ → List ℕ → List ℕ
picks ds p = map (slice_index p) ds
