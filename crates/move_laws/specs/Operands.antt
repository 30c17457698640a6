-- Operands of an operation before and after a step.
use Rattle.std.specs.Prelude.{ℕ, List}
use Rattle.payload_ops.specs.Shape.{PayloadShape}
use Rattle.mlir_meaning.specs.declared.values.Grid.{Grid}
use Rattle.region_laws.specs.Instances.{Instance}
use Rattle.region_laws.specs.Operands.{Operand, maps_in, olds}

-- A GENERIC WHOSE OPERANDS A STEP MOVES: its box, its inputs, the dimensions that the output's map selects, what
-- the output holds before and after, what it captures, and its payload
pub record Moved : Type 0 where
  pub box : List ℕ
  pub inputs : List Operand
  pub ds : List ℕ
  pub width : ℕ
  pub old : Grid
  pub new : Grid
  pub captured : List ℕ
  pub payload : PayloadShape

abbrev pub before : Moved → Instance
before m = record {
  box = m.box;
  maps = maps_in m.inputs;
  ds = m.ds;
  ins = olds m.inputs;
  width = m.width;
  out = m.old;
  captured = m.captured;
  payload = m.payload;
}
