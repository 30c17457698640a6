use Rattle.std.proofs.Common.{◌≡◌, ◌++◌, drop}
use Rattle.mlir_print.specs.Types.{extents_text}
use Rattle.mlir_print.proofs.types.write_extents.Given as goal

abbrev pub invariant-loop-extent : goal.invariant-loop-extent
invariant-loop-extent l = l.out.items ++ extents_text (drop l.extent-index l.extents) ≡ l.fn.out.items ++ extents_text l.extents
