use Rattle.std.proofs.Common.{◌≡◌, max, drop}
use Rattle.verified_runs.specs.Fresh.{above_values}
use Rattle.mlir_edits.proofs.operands.of_list.Given as goal

abbrev pub invariant-loop-v : goal.invariant-loop-v
invariant-loop-v l = max l.end (above_values (drop l.v-index l.list)) ≡ above_values l.list
