use Rattle.std.proofs.Common.{◌≡◌, max, drop}
use Rattle.mlir_ir.specs.Count.{idx_values}
use Rattle.verified_runs.specs.Fresh.{above_values}
use Rattle.mlir_edits.proofs.operands.of_indices.Given as goal

abbrev pub invariant-loop-i : goal.invariant-loop-i
invariant-loop-i l = max l.end (above_values (idx_values (drop l.i-index l.list))) ≡ above_values (idx_values l.list)
