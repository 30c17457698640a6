use Rattle.std.proofs.Common.{◌≡◌, ◌++◌, [], drop}
use Rattle.mlir_print.specs.StructuredParts.{axes_text}
use Rattle.mlir_print.proofs.structured.write_axes.Given as goal

abbrev pub invariant-loop-axis : goal.invariant-loop-axis
invariant-loop-axis l = l.out.items ++ axes_text l.before (drop l.axis-index l.axes) ≡ l.fn.out.items ++ axes_text [] l.axes
