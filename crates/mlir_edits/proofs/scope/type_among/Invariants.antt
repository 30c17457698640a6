use Rattle.std.proofs.Common.{◌≡◌, drop}
use Rattle.std.specs.Prelude.{option_copied}
use Rattle.mlir_ir.specs.Count.{first}
use Rattle.mlir_verify.specs.Place.{type_among}
use Rattle.mlir_edits.proofs.scope.type_among.Given as goal

abbrev pub invariant-loop-d : goal.invariant-loop-d
invariant-loop-d l = first (type_among (drop l.d-index l.definitions) l.v.0) (option_copied l.found) ≡ type_among l.definitions l.v.0
