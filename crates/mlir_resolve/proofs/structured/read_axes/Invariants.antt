use Rattle.std.proofs.Common.{◌≡◌, drop}
use Rattle.mlir_lex.specs.Chain.{each}
use Rattle.mlir_resolve.specs.Structured.{axis_of}
use Rattle.mlir_lex.proofs.Loops.{onto}
use Rattle.mlir_resolve.proofs.structured.read_axes.Given as goal

abbrev pub invariant-loop-number : goal.invariant-loop-number
invariant-loop-number l = onto l.found (each axis_of (drop l.number-index l.numbers)) ≡ each axis_of l.numbers
