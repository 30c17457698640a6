use Rattle.std.proofs.Common.{◌≡◌, drop}
use Rattle.mlir_lex.specs.Chain.{each}
use Rattle.mlir_scope.specs.Types.{extent_at}
use Rattle.mlir_lex.proofs.Loops.{onto}
use Rattle.mlir_scope.proofs.typing.extents_at.Given as goal

abbrev pub invariant-loop-extent : goal.invariant-loop-extent
invariant-loop-extent l = onto l.found (each (extent_at l.at) (drop l.extent-index l.written)) ≡ each (extent_at l.at) l.written
