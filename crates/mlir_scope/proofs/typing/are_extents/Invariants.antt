use Rattle.std.proofs.Common.{◌≡◌, length}
use Rattle.mlir_scope.specs.Types.{are_extents}
use Rattle.mlir_scope.proofs.typing.are_extents.Given as goal

abbrev pub invariant-loop-rest : goal.invariant-loop-rest
invariant-loop-rest l = are_extents l.rest l.wanted ≡ are_extents l.written l.extents

abbrev pub decreases-loop-rest : goal.decreases-loop-rest
decreases-loop-rest l = length l.rest
