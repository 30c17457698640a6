-- Packed points and packed operands. Axis d of a point is cut by the size at place d of a list, into an outer
-- coordinate in its place and an inner one after all axes; 0 leaves it whole.
use Rattle.std.specs.Prelude.{◌≡◌, ℕ, zero, suc, ◌+◌, ◌*◌, ◌/◌, ◌%◌, ◌<◌, ◌^◌, ℤ, true, false, List, [], ◌∷◌, ◌++◌, map, length, Option, Some, None, slice_index, if◌then◌else◌, ◌⊎◌, ⊤}
use Rattle.std.specs.List.{list_any}
use Rattle.std.specs.Option.{option_map_or}
use Rattle.affine_maps.specs.Map.{dimension}
use Rattle.affine_maps.specs.Shape.{MapShape}
use Rattle.affine_maps.specs.declared.map.Expr.{Expr}
use Rattle.payload_laws.specs.Known.{is_neutral_under}
use Rattle.mlir_base.specs.Types.{bits_of}
use Rattle.payload_ops.specs.Shape.{PayloadShape}
use Rattle.payload_ops.specs.declared.step.StepOp.{StepOp}
use Rattle.payload_ops.specs.declared.step.StepOp.TheVariants.{Index}
use Rattle.mlir_meaning.specs.Grids.{at, InBox, Each}
use Rattle.mlir_meaning.specs.Moves.{pack_of, unpack_of}
use Rattle.mlir_meaning.specs.Points.{dimension_of, selects, has, select_map}
use Rattle.mlir_meaning.specs.States.{grid_of}
use Rattle.mlir_meaning.specs.Structured.{operand_extent}
use Rattle.mlir_meaning.specs.declared.values.Datum.{Datum}
use Rattle.mlir_meaning.specs.declared.values.Datum.TheVariants.{Cells}
use Rattle.mlir_meaning.specs.declared.values.Grid.{Grid}
use Rattle.region_laws.specs.Operands.{IsPlain, ReadsAxes, IsThere, maps_of, Operand, maps_in, olds, news}
use Rattle.point_laws.specs.Boxes.{picks}
use Rattle.point_laws.specs.Folds.{Combines}
use Rattle.point_laws.specs.Tiles.{tile_count}
use Rattle.move_laws.specs.Operands.{Moved}
use Rattle.region_laws.specs.Instances.{Instance}
use Rattle.point_laws.specs.Folds.{CannotTrap}
use Rattle.payload_ops.specs.declared.step.PayloadStep.{PayloadStep}

-- POINTS
abbrev pub outers : List ℕ → List ℕ → List ℕ
outers [] ts = []
outers (i ∷ p) [] = i ∷ outers p []
outers (i ∷ p) (zero ∷ ts) = i ∷ outers p ts
outers (i ∷ p) (suc t ∷ ts) = (i / suc t) ∷ outers p ts

abbrev pub inners : List ℕ → List ℕ → List ℕ
inners [] ts = []
inners (i ∷ p) [] = inners p []
inners (i ∷ p) (zero ∷ ts) = inners p ts
inners (i ∷ p) (suc t ∷ ts) = (i % suc t) ∷ inners p ts

abbrev pub outer_box : List ℕ → List ℕ → List ℕ
outer_box [] ts = []
outer_box (e ∷ es) [] = e ∷ outer_box es []
outer_box (e ∷ es) (zero ∷ ts) = e ∷ outer_box es ts
outer_box (e ∷ es) (suc t ∷ ts) = tile_count e (suc t) ∷ outer_box es ts

abbrev pub inner_box : List ℕ → List ℕ → List ℕ
inner_box [] ts = []
inner_box (e ∷ es) [] = inner_box es []
inner_box (e ∷ es) (zero ∷ ts) = inner_box es ts
inner_box (e ∷ es) (suc t ∷ ts) = suc t ∷ inner_box es ts

abbrev pub packed_box : List ℕ → List ℕ → List ℕ
packed_box es ts = outer_box es ts ++ inner_box es ts

-- the point of outer and inner coordinates
abbrev pub merged : List ℕ → List ℕ → List ℕ → List ℕ
merged [] is ts = []
merged (x ∷ o) is [] = x ∷ merged o is []
merged (x ∷ o) is (zero ∷ ts) = x ∷ merged o is ts
merged (x ∷ o) [] (suc t ∷ ts) = (x * suc t) ∷ merged o [] ts
merged (x ∷ o) (i ∷ is) (suc t ∷ ts) = (x * suc t + i) ∷ merged o is ts

-- the axes with a size, and their sizes: what `linalg.pack` and `linalg.unpack` name
abbrev pub cut_axes : List ℕ → List ℕ
cut_axes [] = []
cut_axes (zero ∷ ts) = map suc (cut_axes ts)
cut_axes (suc t ∷ ts) = 0 ∷ map suc (cut_axes ts)

abbrev pub cut_sizes : List ℕ → List ℕ
cut_sizes [] = []
cut_sizes (zero ∷ ts) = cut_sizes ts
cut_sizes (suc t ∷ ts) = suc t ∷ cut_sizes ts

-- how many axes before axis d have a size: the place of its inner coordinate
abbrev pub packed_before : List ℕ → ℕ → ℕ
packed_before [] d = 0
packed_before (t ∷ ts) zero = 0
packed_before (zero ∷ ts) (suc d) = packed_before ts d
packed_before (suc t ∷ ts) (suc d) = suc (packed_before ts d)

-- OPERANDS
-- an axis that one dimension alone selects has that dimension's size
abbrev pub axis_tile : List ℕ → Expr → ℕ
axis_tile ts e = option_map_or (slice_index ts) (dimension_of e) 0

abbrev pub axis_tiles : List ℕ → List Expr → List ℕ
axis_tiles ts es = map (axis_tile ts) es

-- the place among the inner coordinates of that dimension's
abbrev pub axis_place : List ℕ → Expr → ℕ
axis_place ts e = option_map_or (packed_before ts) (dimension_of e) 0

abbrev pub with_inner : {X : Type 0} → ℕ → X → List X → List X
with_inner zero x xs = xs
with_inner (suc t) x xs = x ∷ xs

-- the inner dimensions of an operand's packed axes; they stand after n others
abbrev pub inner_axes : ℕ → List ℕ → List Expr → List Expr
inner_axes n ts [] = []
inner_axes n ts (e ∷ es) = with_inner (axis_tile ts e) (dimension (n + axis_place ts e)) (inner_axes n ts es)

abbrev pub packed_map : List ℕ → MapShape → MapShape
packed_map ts m = record {
  dims = length ts + length (cut_sizes ts);
  results = m.results
      ++ inner_axes (length ts) ts m.results;
}

-- the same of the dimensions that the output's map selects
abbrev pub inner_dims : ℕ → List ℕ → List ℕ → List ℕ
inner_dims n ts [] = []
inner_dims n ts (d ∷ ds) = with_inner (slice_index ts d) (n + packed_before ts d) (inner_dims n ts ds)

abbrev pub packed_dims : List ℕ → List ℕ → List ℕ
packed_dims ts ds = ds ++ inner_dims (length ts) ts ds

-- the operand in the new operation: packed with 0 in the places past its end, or the same where none of its axes is
-- packed
abbrev pub IsPacked : List ℕ → MapShape → Datum → Datum → Type 0
IsPacked ts m (Cells width g) x' =
    let sizes = axis_tiles ts m.results in
    (x' ≡ Cells width (pack_of g (packed_box g.extents sizes) (cut_axes sizes) (cut_sizes sizes) 0))
    ⊎ ((x' ≡ Cells width g) × (cut_sizes sizes ≡ []))
IsPacked ts m x x' = x' ≡ x

-- an axis that isn't one dimension alone names no dimension that is packed
abbrev pub StaysBy : List ℕ → Expr → Option ℕ → Type 0
StaysBy ts e (Some d) = ⊤
StaysBy ts e None = Each (λ (t : ℕ × ℤ). slice_index ts t.0 ≡ 0) e.terms

abbrev pub StaysAxis : List ℕ → Expr → Type 0
StaysAxis ts e = StaysBy ts e (dimension_of e)

-- WHAT IS KNOWN OF THE OPERANDS
-- a scalar has a map without results
abbrev pub AxesPack : List ℕ → List ℕ → MapShape → Datum → Type 0
AxesPack box ts m (Cells width g) = Each (IsPlain (length box)) m.results × Each (StaysAxis ts) m.results
    × ReadsAxes box m.results g.extents
AxesPack box ts m _ = m.results ≡ []

abbrev pub PacksOperand : List ℕ → List ℕ → Operand → Type 0
PacksOperand box ts o = AxesPack box ts o.axes o.old × IsPacked ts o.axes o.old o.new

abbrev pub output_tiles : List ℕ → List ℕ → List ℕ
output_tiles ts ds = axis_tiles ts (map dimension ds)

pub record Packs (box ts : List ℕ) (os : List Operand) (ds : List ℕ) (width : ℕ) (g g' : Grid) : Type 0 where
  pub long : length ts ≡ length box
  pub inputs : Each (PacksOperand box ts) os
  pub selects : Each (λ d. d < length box) ds
  pub extents : g.extents ≡ picks ds box
  pub alone : (d : ℕ) → d < length box →
      IsThere (operand_extent d (maps_of (maps_in os) box ds) (olds os ++ Cells width g ∷ []))
  pub output : IsPacked ts (select_map (length box) ds) (Cells width g) (Cells width g')

abbrev pub packed_maps : List ℕ → List Operand → List MapShape
packed_maps ts os = map (λ (o : Operand). packed_map ts o.axes) os

-- WHAT IS KNOWN OF THE PAYLOAD
abbrev pub IsPointFree : StepOp → Type 0
IsPointFree (Index d) = ⊥
IsPointFree _ = ⊤

-- 0 for the operands whose maps have a dimension
abbrev pub zeros_of : ℕ → List Operand → List (Option ℕ)
zeros_of d os = map (λ (o : Operand). if list_any (selects d) o.axes.results then Some 0 else None) os

-- only dimensions of the output are packed
abbrev pub OutputPacked : List ℕ → List ℕ → List ℕ → Type 0
OutputPacked box ts ds = (d : ℕ) → d < length box → (slice_index ts d ≡ 0 → ⊥) → has ds d ≡ true

-- or the terms past the end of each other one that is packed with a size that doesn't divide are neutral
pub record PackAbsorbs (box ts : List ℕ) (os : List Operand) (ds : List ℕ) (payload : PayloadShape)
    (g : Grid) : Type 0 where
  pub combines : Combines payload
  pub neutral : (d : ℕ) → d < length box → has ds d ≡ false → (slice_index ts d ≡ 0 → ⊥) →
      (slice_index box d % slice_index ts d ≡ 0 → ⊥) → is_neutral_under payload (zeros_of d os) ≡ true
  pub below : (p : List ℕ) → InBox g.extents p → at g p < 2 ^ bits_of payload.out

-- what the new operation gives, unpacked into the old output
abbrev pub unpacked : List ℕ → List ℕ → ℕ → Datum → Datum
unpacked es sizes width d = Cells width (unpack_of (grid_of d) es (cut_axes sizes) (cut_sizes sizes))

-- THE GENERIC ON PACKED OPERANDS, with an inner dimension behind the others for each one that is packed
abbrev pub packed : Moved → List ℕ → Instance
packed m ts = record {
  box = packed_box m.box ts;
  maps = packed_maps ts m.inputs;
  ds = packed_dims ts m.ds;
  ins = news m.inputs;
  width = m.width;
  out = m.new;
  captured = m.captured;
  payload = m.payload;
}

-- its operands are packed by these sizes with 0; the payload names no dimension and can't trap; and what is added
-- changes nothing
pub record IsPackedBy (m : Moved) (ts : List ℕ) : Type 0 where
  pub packs : Packs m.box ts m.inputs m.ds m.width m.old m.new
  pub free : Each (λ (s : PayloadStep). IsPointFree s.op) m.payload.steps
  pub cannot : CannotTrap m.payload
  pub kept : OutputPacked m.box ts m.ds ⊎ PackAbsorbs m.box ts m.inputs m.ds m.payload m.old
