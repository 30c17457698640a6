use Rattle.std.proofs.Common.{◌≡◌, max, drop}
use Rattle.verified_runs.specs.Fresh.{above_ids}
use Rattle.mlir_edits.proofs.numbers.ids_end.Given as goal

abbrev pub invariant-loop-op : goal.invariant-loop-op
invariant-loop-op l = max l.end (above_ids (drop l.op-index l.ops)) ≡ above_ids l.ops
