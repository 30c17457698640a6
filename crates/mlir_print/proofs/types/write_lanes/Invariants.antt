use Rattle.std.proofs.Common.{◌≡◌, ◌++◌, drop}
use Rattle.mlir_print.specs.Types.{lanes_text}
use Rattle.mlir_print.proofs.types.write_lanes.Given as goal

abbrev pub invariant-loop-number : goal.invariant-loop-number
invariant-loop-number l = l.out.items ++ lanes_text (drop l.number-index l.lanes) ≡ l.fn.out.items ++ lanes_text l.lanes
