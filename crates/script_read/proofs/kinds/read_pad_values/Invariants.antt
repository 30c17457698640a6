use Rattle.std.proofs.Common.{◌≡◌, drop}
use Rattle.mlir_lex.specs.Chain.{each}
use Rattle.mlir_lex.proofs.Loops.{onto}
use Rattle.script_read.specs.Numbers.{pad_value_of}
use Rattle.script_read.proofs.kinds.read_pad_values.Given as goal

abbrev pub invariant-loop-value : goal.invariant-loop-value
invariant-loop-value l = onto l.found (each pad_value_of (drop l.value-index l.list)) ≡ each pad_value_of l.list
