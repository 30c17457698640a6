-- A generic in a state: what its operands hold there.
use Rattle.std.specs.Prelude.{ℕ, List, Option, length}
use Rattle.affine_maps.specs.Shape.{MapShape}
use Rattle.payload_ops.specs.Shape.{PayloadShape}
use Rattle.mlir_meaning.specs.Structured.{generic_step, generic_result}
use Rattle.mlir_meaning.specs.declared.values.Datum.{Datum}
use Rattle.mlir_meaning.specs.declared.values.Datum.TheVariants.{Cells}
use Rattle.mlir_meaning.specs.declared.values.Grid.{Grid}
use Rattle.region_laws.specs.Operands.{maps_of, IsTyped, FitsBox}

-- the extents of its dimensions, the maps of its inputs, the dimensions that the output's map selects, what the
-- inputs and the output hold (elements of `width` bits), what it captures, and its payload
pub record Instance : Type 0 where
  pub box : List ℕ
  pub maps : List MapShape
  pub ds : List ℕ
  pub ins : List Datum
  pub width : ℕ
  pub out : Grid
  pub captured : List ℕ
  pub payload : PayloadShape

abbrev pub step_of : Instance → ℕ → List ℕ → Option ℕ
step_of g = generic_step (maps_of g.maps g.box g.ds) g.ins g.captured g.payload

-- None is the trap
abbrev pub result_of : Instance → Option Datum
result_of g = generic_result (maps_of g.maps g.box g.ds) (length g.box) g.ins (Cells g.width g.out) g.captured g.payload

-- what is known of it, by its operands' extents, and by each axis
abbrev pub IsTypedInstance : Instance → Type 0
IsTypedInstance g = IsTyped g.box g.maps g.ds g.ins g.width g.out

abbrev pub FitsItsBox : Instance → Type 0
FitsItsBox g = FitsBox g.box g.maps g.ds g.ins g.width g.out
