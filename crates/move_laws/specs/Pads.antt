-- A generic over padded operands. The extent of a dimension grows from that in `box` to that in `box'`.
use Rattle.std.specs.Prelude.{◌≡◌, ℕ, ◌+◌, ◌-◌, ◌<◌, ◌^◌, ℤ, true, false, List, [], ◌∷◌, ◌++◌, map, length, Option, Some, None, slice_index, if◌then◌else◌, ◌⊎◌, ⊤}
use Rattle.std.specs.List.{list_any}
use Rattle.std.specs.Option.{option_map_or}
use Rattle.affine_maps.specs.Shape.{MapShape}
use Rattle.affine_maps.specs.declared.map.Expr.{Expr}
use Rattle.payload_laws.specs.Known.{is_neutral_under}
use Rattle.mlir_base.specs.Types.{bits_of}
use Rattle.payload_ops.specs.Shape.{PayloadShape}
use Rattle.mlir_meaning.specs.Grids.{at, InBox, Each}
use Rattle.mlir_meaning.specs.Moves.{like, pad_of, slice_of}
use Rattle.mlir_meaning.specs.States.{grid_of}
use Rattle.mlir_meaning.specs.Points.{to_nat, dimension_of, selects, has, select_map}
use Rattle.mlir_meaning.specs.Structured.{operand_extent}
use Rattle.mlir_meaning.specs.declared.values.Datum.{Datum}
use Rattle.mlir_meaning.specs.declared.values.Datum.TheVariants.{Cells}
use Rattle.mlir_meaning.specs.declared.values.Grid.{Grid}
use Rattle.region_laws.specs.Operands.{IsPlain, reach, IsThere, maps_of, Operand, maps_in, olds, news}
use Rattle.point_laws.specs.Boxes.{NoPoints, picks, Grows, zeros}
use Rattle.point_laws.specs.Folds.{Combines}
use Rattle.move_laws.specs.Operands.{Moved}
use Rattle.region_laws.specs.Instances.{Instance}
use Rattle.point_laws.specs.Folds.{CannotTrap}

-- an axis grows with the dimension that it is alone
abbrev pub axis_high : List ℕ → List ℕ → Expr → ℕ
axis_high box box' e = option_map_or (λ d. slice_index box' d - slice_index box d) (dimension_of e) 0

abbrev pub highs : List ℕ → List ℕ → List Expr → List ℕ
highs box box' es = map (axis_high box box') es

-- the operand in the new operation: padded, or the same where none of its axes grows
abbrev pub IsPadded : List ℕ → List ℕ → MapShape → ℕ → Datum → Datum → Type 0
IsPadded box box' m v (Cells width g) x' =
    (x' ≡ Cells width (pad_of g (highs box box' m.results) v))
    ⊎ ((x' ≡ Cells width g) × (highs box box' m.results ≡ zeros g.extents))
IsPadded box box' m v x x' = x' ≡ x

-- WHAT IS KNOWN OF THE OPERANDS
-- the dimensions of an axis that isn't one dimension alone stay; its greatest value on the box lies below its
-- extent, or also the new box has no points
abbrev pub PadsBy : List ℕ → List ℕ → Expr → ℕ → Option ℕ → Type 0
PadsBy box box' e x (Some d) = (d < length box) × (x ≡ slice_index box d)
PadsBy box box' e x None = Each (λ (t : ℕ × ℤ). slice_index box' t.0 ≡ slice_index box t.0) e.terms
    × ((to_nat e.constant + reach e.terms box < x) ⊎ NoPoints box')

abbrev pub PadsAxes : List ℕ → List ℕ → List Expr → List ℕ → Type 0
PadsAxes box box' [] [] = ⊤
PadsAxes box box' (e ∷ es) (x ∷ xs) = PadsBy box box' e x (dimension_of e) × PadsAxes box box' es xs
PadsAxes box box' _ _ = ⊥

-- a scalar has a map without results
abbrev pub AxesPad : List ℕ → List ℕ → MapShape → Datum → Type 0
AxesPad box box' m (Cells width g) = Each (IsPlain (length box)) m.results × PadsAxes box box' m.results g.extents
AxesPad box box' m _ = m.results ≡ []

abbrev pub PadsOperand : List ℕ → List ℕ → Operand → Type 0
PadsOperand box box' o = AxesPad box box' o.axes o.old × IsPadded box box' o.axes o.value o.old o.new

pub record Pads (box box' : List ℕ) (os : List Operand) (ds : List ℕ) (width value : ℕ) (g g' : Grid) : Type 0 where
  pub grows : Grows box box'
  pub inputs : Each (PadsOperand box box') os
  pub selects : Each (λ d. d < length box) ds
  pub extents : g.extents ≡ picks ds box
  pub alone : (d : ℕ) → d < length box →
      IsThere (operand_extent d (maps_of (maps_in os) box ds) (olds os ++ Cells width g ∷ []))
  pub output : IsPadded box box' (select_map (length box) ds) value (Cells width g) (Cells width g')

-- WHAT IS KNOWN OF THE PAYLOAD
-- the values of the operands whose maps have a dimension
abbrev pub pads_of : ℕ → List Operand → List (Option ℕ)
pads_of d os = map (λ (o : Operand). if list_any (selects d) o.axes.results then Some o.value else None) os

-- only dimensions of the output grow
abbrev pub OutputGrows : List ℕ → List ℕ → List ℕ → Type 0
OutputGrows box box' ds = (d : ℕ) → d < length box → slice_index box d < slice_index box' d → has ds d ≡ true

-- or the terms at the new coordinates of each other one that grows are neutral
pub record Absorbs (box box' : List ℕ) (os : List Operand) (ds : List ℕ) (payload : PayloadShape)
    (g : Grid) : Type 0 where
  pub combines : Combines payload
  pub neutral : (d : ℕ) → d < length box → slice_index box d < slice_index box' d → has ds d ≡ false →
      is_neutral_under payload (pads_of d os) ≡ true
  pub below : (p : List ℕ) → InBox g.extents p → at g p < 2 ^ bits_of payload.out

-- the old box of what the new operation gives
abbrev pub unpadded : List ℕ → Datum → Datum
unpadded es d = like d (slice_of (grid_of d) (zeros es) es)

-- THE GENERIC ON PADDED OPERANDS, over a greater box; its maps, and so its form, stay
abbrev pub padded : Moved → List ℕ → Instance
padded m box' = record {
  box = box';
  maps = maps_in m.inputs;
  ds = m.ds;
  ins = news m.inputs;
  width = m.width;
  out = m.new;
  captured = m.captured;
  payload = m.payload;
}

-- its operands are padded to the greater box, the output with `value`; the payload can't trap; and what is added
-- changes nothing
pub record IsPaddedTo (m : Moved) (box' : List ℕ) (value : ℕ) : Type 0 where
  pub pads : Pads m.box box' m.inputs m.ds m.width value m.old m.new
  pub cannot : CannotTrap m.payload
  pub kept : OutputGrows m.box box' m.ds ⊎ Absorbs m.box box' m.inputs m.ds m.payload m.old
