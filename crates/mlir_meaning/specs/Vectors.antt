-- Vectors (Vector manual; Arith manual on vectors). A lane is a point of the vector's box.
use Rattle.std.specs.Prelude.{ℕ, ◌+◌, ◌==◌, ◌&&◌, Bool, true, List, [], ◌∷◌, map, fold, filter, filter_map, find, length, Option, Some, None, option_map, if◌then◌else◌, slice_index, slice_set}
use Rattle.std.specs.Option.{option_map_or}
use Rattle.affine_maps.specs.Shape.{MapShape}
use Rattle.payload_ops.specs.Combine.{joined}
use Rattle.payload_ops.specs.Shape.{PayloadShape}
use Rattle.payload_ops.specs.Values.{payload_value, bit_of}
use Rattle.payload_ops.specs.declared.kinds.Combiner.{Combiner}
use Rattle.mlir_base.specs.declared.types.ElemTy.TheVariants.{Int}
use Rattle.payload_ops.specs.declared.step.Arg.TheVariants.{Step}
use Rattle.payload_ops.specs.declared.step.StepOp.{StepOp}
use Rattle.mlir_meaning.specs.Grids.{Grid, points, at, tabulate, settled, same_point, is_inside, count_up}
use Rattle.mlir_meaning.specs.Points.{dimension_of, kept}
use Rattle.mlir_meaning.specs.States.{Datum, Cells, element, width_of}

-- a lane is on where each coordinate is below its size (Vector manual, "vector.create_mask")
unfoldable pub mask_of : List ℕ → List ℕ → Grid
mask_of sizes lanes = tabulate lanes (λ p. bit_of (is_inside sizes p))

-- TRANSFERS: the map gives each axis of the vector a source axis, or a 0, along which the read broadcasts
abbrev pub source_axes : MapShape → List (Option ℕ)
source_axes m = map dimension_of m.results

-- the source's point of a lane: the offsets, plus the lane's coordinates on the named axes
abbrev pub lane_point : List (Option ℕ) → List ℕ → List ℕ → List ℕ
lane_point (None ∷ axes) (i ∷ p) offsets = lane_point axes p offsets
lane_point (Some a ∷ axes) (i ∷ p) offsets = slice_set (lane_point axes p offsets) a (slice_index offsets a + i)
lane_point _ _ offsets = offsets

-- the lane's coordinate on a source axis, if the map names it
abbrev pub lane_coordinate : List (Option ℕ) → List ℕ → ℕ → Option ℕ
lane_coordinate (None ∷ axes) (i ∷ p) axis = lane_coordinate axes p axis
lane_coordinate (Some a ∷ axes) (i ∷ p) axis = if a == axis then Some i else lane_coordinate axes p axis
lane_coordinate _ _ axis = None

-- the mask has one axis for each source axis that the map names, in the order of the source's axes
abbrev pub mask_point : List (Option ℕ) → ℕ → List ℕ → List ℕ
mask_point axes rank p = filter_map (lane_coordinate axes p) (count_up 0 rank)

abbrev pub is_on : Option Datum → List ℕ → Bool
is_on None p = true
is_on (Some mask) p = element mask p == 1

-- the source where the lane is on, and else the padding (Vector manual, "vector.transfer_read")
unfoldable pub read_of : Grid → List ℕ → ℕ → Option Datum → MapShape → List ℕ → Grid
read_of source offsets padding mask m lanes =
    let axes = source_axes m in
    let rank = length source.extents in
    tabulate lanes (λ p. if is_on mask (mask_point axes rank p) then at source (lane_point axes p offsets) else padding)

-- whether a lane writes the element at e
abbrev pub writes : List (Option ℕ) → ℕ → List ℕ → Option Datum → List ℕ → List ℕ → Bool
writes axes rank offsets mask e p = is_on mask (mask_point axes rank p) && same_point (lane_point axes p offsets) e

-- an element that a lane writes, and else the destination's (Vector manual, "vector.transfer_write"); the map has no 0, so no two lanes
-- write one element
unfoldable pub write_of : Grid → List ℕ → Option Datum → MapShape → Grid → Grid
write_of value offsets mask m dest =
    let axes = source_axes m in
    let rank = length dest.extents in
    tabulate dest.extents (λ e. option_map_or (at value) (find (writes axes rank offsets mask e) (points value.extents)) (at dest e))

-- LANE BY LANE
-- the operation as a payload of one step
abbrev pub lane_payload : StepOp → List Datum → ℕ → PayloadShape
lane_payload op args width = record {
  ins = map (λ a. Int (width_of a)) args;
  out = Int width;
  steps = record { ty = Int width; op = op } ∷ [];
  yielded = Step 0;
}

abbrev pub lane_value : StepOp → List Datum → ℕ → List ℕ → Option ℕ
lane_value op args width p =
    payload_value (lane_payload op args width) (record { point = []; outer = []; ins = map (λ a. element a p) args; out = 0 })

-- None is the trap of some lane (Arith manual, the operations on vectors)
unfoldable pub elementwise_result : StepOp → List Datum → ℕ → List ℕ → Option Datum
elementwise_result op args width lanes = option_map (Cells width) (settled lanes (lane_value op args width))

-- REDUCTIONS: the fold over the reduced lanes in lexicographic order, from the accumulator (Vector manual, "vector.multi_reduction")
unfoldable pub reduction_of : Combiner → ℕ → Grid → Grid → List ℕ → Grid
reduction_of kind width source acc dims =
    tabulate acc.extents
    (λ e. fold (λ a p. joined kind width a (at source p)) (at acc e) (filter (λ p. same_point (kept dims 0 p) e) (points source.extents)))
