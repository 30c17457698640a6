use Rattle.std.proofs.Common.{◌≡◌, drop}
use Rattle.mlir_lex.specs.Chain.{each}
use Rattle.mlir_lex.proofs.Loops.{onto}
use Rattle.script_read.specs.Numbers.{size_of, sizes_of}
use Rattle.script_read.proofs.numbers.read_sizes.Given as goal

abbrev pub invariant-loop-number : goal.invariant-loop-number
invariant-loop-number l = onto l.found (each size_of (drop l.number-index l.numbers)) ≡ sizes_of l.numbers
