use Rattle.std.proofs.Common.{◌≡◌, drop}
use Rattle.mlir_verify.specs.Extents.{are_same_extents, is_broadcast}
use Rattle.mlir_verify.proofs.Broadcasts.{extents_from}
use Rattle.mlir_verify.proofs.extents.is_broadcast.Given as goal

abbrev pub invariant-loop-k : goal.invariant-loop-k
invariant-loop-k l = are_same_extents (extents_from l.added l.k (drop l.k l.out)) l.left ≡ is_broadcast l.added l.source l.out
