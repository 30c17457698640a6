use Rattle.std.proofs.Common.{◌≡◌, ◌≤◌, ◌*◌, drop, nat_le}
use Rattle.mlir_scope.specs.Types.{elements}
use Rattle.mlir_scope.proofs.typing.has_few_elements.Given as goal

abbrev pub invariant-loop-extent : goal.invariant-loop-extent
invariant-loop-extent l = record { few : nat_le (l.product * elements (drop l.extent-index l.extents)) 4194304 ≡ nat_le (elements l.extents) 4194304; small : l.product ≤ 4194305 }
