use Rattle.std.proofs.Common.{◌≡◌, ◌*◌, drop}
use Rattle.mlir_scope.specs.Types.{elements}
use Rattle.mlir_resolve.proofs.dense.product.Given as goal

abbrev pub invariant-loop-extent : goal.invariant-loop-extent
invariant-loop-extent l = l.product * elements (drop l.extent-index l.extents) ≡ elements l.extents
