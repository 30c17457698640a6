use Rattle.std.proofs.Common.{◌≡◌, max, drop}
use Rattle.mlir_meaning.specs.States.{names_of}
use Rattle.verified_runs.specs.Fresh.{above_values}
use Rattle.mlir_edits.proofs.operands.of_definitions.Given as goal

abbrev pub invariant-loop-d : goal.invariant-loop-d
invariant-loop-d l = max l.end (above_values (names_of (drop l.d-index l.list))) ≡ above_values (names_of l.list)
