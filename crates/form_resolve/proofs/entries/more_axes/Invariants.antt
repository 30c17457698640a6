use Rattle.std.proofs.Common.{◌≡◌, drop}
use Rattle.mlir_lex.specs.Chain.{each}
use Rattle.mlir_lex.proofs.Loops.{onto}
use Rattle.form_resolve.specs.Entries.{next_axis, behind}
use Rattle.form_resolve.proofs.entries.more_axes.Given as goal

abbrev pub invariant-loop-next : goal.invariant-loop-next
invariant-loop-next l = onto l.found (each next_axis (drop l.next-index l.more)) ≡ behind l.fn.axes (each next_axis l.more)
