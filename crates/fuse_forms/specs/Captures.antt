-- Values by their numbers.
use Rattle.std.specs.Prelude.{ℕ, List, map}
use Rattle.mlir_ir.specs.declared.tree.ValueId.{ValueId}

abbrev pub value : ℕ → ValueId
value n = record { 0 = n }

abbrev pub values_of : List ℕ → List ValueId
values_of = map value
