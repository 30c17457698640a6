-- Tensors that are made point by point, and tiles of them.
use Rattle.std.specs.Prelude.{◌≡◌, ℕ, ◌&&◌, Bool, List, fold, filter, Option, Some, option_map, option_and_then}
use Rattle.mlir_meaning.specs.declared.values.Grid.{Grid}
use Rattle.mlir_meaning.specs.Grids.{points, at, settled, same_point, lies_in, plus, InBox, Fits}
use Rattle.mlir_meaning.specs.Moves.{slice_of, insert_into}
use Rattle.mlir_meaning.specs.Structured.{fold_points, generic_element}
use Rattle.point_laws.specs.Tiles.{tile_box, tile_of, tile_offsets, tile_sizes}

-- each cell by its point and its value
abbrev pub pointwise : (List ℕ → ℕ → Option ℕ) → Grid → Option Grid
pointwise h g = settled g.extents (λ e. h e (at g e))

-- the cell at e after the points of a region
abbrev pub cell : (List ℕ → List ℕ) → (ℕ → List ℕ → Option ℕ) → List ℕ → (List ℕ → Bool) → List ℕ → ℕ → Option ℕ
cell out step box S e a = fold_points step (filter (λ p. same_point (out p) e && S p) (points box)) a

-- the tensor after the points of a region
abbrev pub region : (List ℕ → List ℕ) → (ℕ → List ℕ → Option ℕ) → List ℕ → (List ℕ → Bool) → Grid → Option Grid
region out step box S = pointwise (cell out step box S)

-- the step at a point that is moved
abbrev pub moved : (ℕ → List ℕ → Option ℕ) → List ℕ → ℕ → List ℕ → Option ℕ
moved step os a p = step a (plus p os)

-- the tile of a region from a tensor: the fold over the points of its own box
abbrev pub tile : (List ℕ → List ℕ) → (ℕ → List ℕ → Option ℕ) → List ℕ → List ℕ → List ℕ → List ℕ → Grid → Option Grid
tile out step os ns oo on g = settled on (generic_element out (moved step os) ns (slice_of g oo on))

-- and its insertion
abbrev pub tile_step : (List ℕ → List ℕ) → (ℕ → List ℕ → Option ℕ) → List ℕ → List ℕ → List ℕ → List ℕ → Grid →
    Option Grid
tile_step out step os ns oo on g = option_map (λ t. insert_into t oo g) (tile out step os ns oo on g)

-- the tile where the output isn't sliced
abbrev pub whole_step : (List ℕ → List ℕ) → (ℕ → List ℕ → Option ℕ) → List ℕ → List ℕ → Grid → Option Grid
whole_step out step os ns g = settled g.extents (generic_element out (moved step os) ns g)

-- the same where the tile begins from the start
abbrev pub start_step : (List ℕ → List ℕ) → (ℕ → List ℕ → Option ℕ) → List ℕ → List ℕ → List ℕ → List ℕ → Grid → Grid →
    Option Grid
start_step out step os ns oo on start g = option_map (λ t. insert_into t oo g) (tile out step os ns oo on start)

-- a region of a box, and the region of the output that its points write; `inner` is the output's point of a point
-- of the tile
pub record Window (out inner : List ℕ → List ℕ) (box es os ns oo on : List ℕ) : Type 0 where
  pub fits : Fits box os ns
  pub out_fits : Fits es oo on
  pub within : (p : List ℕ) → InBox ns p → InBox on (inner p)
  pub moves : (p : List ℕ) → InBox ns p → out (plus p os) ≡ plus (inner p) oo

-- one after another
abbrev pub in_turn : {Q : Type 0} → (Q → Grid → Option Grid) → List Q → Grid → Option Grid
in_turn one qs g = fold (λ o q. option_and_then (one q) o) (Some g) qs

-- each tile writes its own part of the output: where a point is written tells its tile
abbrev pub WritesApart : (List ℕ → List ℕ) → List ℕ → List ℕ → (List ℕ → List ℕ) → (List ℕ → List ℕ) → Type 0
WritesApart out box ts oo on = (q p : List ℕ) → InBox (tile_box box ts) q → InBox box p →
    lies_in (oo q) (on q) (out p) ≡ same_point (tile_of p ts) q

-- each tile's region of the box and of the output
abbrev pub Windows : (List ℕ → List ℕ) → (List ℕ → List ℕ) → List ℕ → List ℕ → List ℕ → (List ℕ → List ℕ) →
    (List ℕ → List ℕ) → Type 0
Windows out inner box es ts oo on = (q : List ℕ) → InBox (tile_box box ts) q →
    Window out inner box es (tile_offsets box ts q) (tile_sizes box ts q) (oo q) (on q)

-- each tile adds the points of its region to a tensor of these extents
abbrev pub AddsRegions : (List ℕ → List ℕ) → (ℕ → List ℕ → Option ℕ) → List ℕ → List ℕ → List ℕ →
    (List ℕ → Grid → Option Grid) → Type 0
AddsRegions out step box es ts one = (q : List ℕ) → InBox (tile_box box ts) q → (cells : List ℕ) →
    one q (record { extents = es; cells = cells }) ≡ region out step box
    (lies_in (tile_offsets box ts q) (tile_sizes box ts q)) (record { extents = es; cells = cells })
