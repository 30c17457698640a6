use Rattle.std.proofs.Common.{◌≡◌, ◌==◌, drop}
use Rattle.mlir_scope.specs.Types.{elements}
use Rattle.mlir_resolve.proofs.dense.has_none.Given as goal

abbrev pub invariant-loop-extent : goal.invariant-loop-extent
invariant-loop-extent l = (elements (drop l.extent-index l.extents) == 0) ≡ (elements l.extents == 0)
