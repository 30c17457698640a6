use Rattle.std.proofs.Common.{◌≡◌, drop}
use Rattle.mlir_edits.specs.Places.{position_from}
use Rattle.mlir_edits.proofs.place.position_in.Given as goal

abbrev pub invariant-loop-k : goal.invariant-loop-k
invariant-loop-k l = position_from l.k l.id (drop l.k l.ops) ≡ position_from 0 l.id l.ops
