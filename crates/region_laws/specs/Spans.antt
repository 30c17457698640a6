-- Where the insertions of a `scf.forall` stand in a shared output: axis by axis, by the loop's variables.
use Rattle.std.specs.Prelude.{◌≡◌, ℕ, ◌-◌, ◌*◌, ◌<◌, min, true, List, [], ◌∷◌, map, length, slice_index, Option, Some, None, ⊤}
use Rattle.point_laws.specs.Orders.{is_order}
use Rattle.point_laws.specs.Tiles.{tile_count}

-- on an axis a region is whole, or it begins at a variable, which is given by its place among the loop's variables and
-- its step, and reaches as far as the step or the end of the axis; `turns` has the turn of each variable
abbrev pub span_offset : List ℕ → Option (ℕ × ℕ) → ℕ
span_offset turns None = 0
span_offset turns (Some a) = slice_index turns a.0 * a.1

abbrev pub span_size : List ℕ → ℕ → Option (ℕ × ℕ) → ℕ
span_size turns extent None = extent
span_size turns extent (Some a) = min (extent - slice_index turns a.0 * a.1) a.1

abbrev pub span_offsets : List ℕ → List (Option (ℕ × ℕ)) → List ℕ
span_offsets turns = map (span_offset turns)

abbrev pub span_sizes : List ℕ → List ℕ → List (Option (ℕ × ℕ)) → List ℕ
span_sizes turns (e ∷ es) (a ∷ axes) = span_size turns e a ∷ span_sizes turns es axes
span_sizes turns _ _ = []

-- the variables' places, in order of the axes
abbrev pub span_places : List (Option (ℕ × ℕ)) → List ℕ
span_places [] = []
span_places (None ∷ axes) = span_places axes
span_places (Some a ∷ axes) = a.0 ∷ span_places axes

-- each variable runs from 0 to the extent of its axis by its step
abbrev pub SpansRun : List ℕ → List ℕ → List (Option (ℕ × ℕ)) → Type 0
SpansRun box [] [] = ⊤
SpansRun box (e ∷ es) (None ∷ axes) = SpansRun box es axes
SpansRun box (e ∷ es) (Some a ∷ axes) = (0 < a.1) × (slice_index box a.0 ≡ tile_count e a.1) × SpansRun box es axes
SpansRun box _ _ = ⊥

-- and is the offset on exactly one axis; the loop's box is `box`
pub record AreSpans (box es : List ℕ) (axes : List (Option (ℕ × ℕ))) : Type 0 where
  pub once : is_order (span_places axes) (length box) ≡ true
  pub run : SpansRun box es axes
