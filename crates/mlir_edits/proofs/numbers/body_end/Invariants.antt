use Rattle.std.proofs.Common.{◌≡◌, max, drop}
use Rattle.verified_runs.specs.Fresh.{above_body}
use Rattle.mlir_edits.proofs.numbers.body_end.Given as goal

abbrev pub invariant-loop-op : goal.invariant-loop-op
invariant-loop-op l = max l.end (above_body (drop l.op-index l.ops)) ≡ above_body l.ops
