use Rattle.std.proofs.Common.{◌≡◌, suc, drop}
use Rattle.mlir_resolve.specs.Generics.{more_inputs, inputs_of}
use Rattle.mlir_lex.proofs.Loops.{onto}
use Rattle.mlir_resolve.proofs.generics.read_inputs.Given as goal

abbrev pub invariant-loop-input : goal.invariant-loop-input
invariant-loop-input l = record { found : onto l.found (more_inputs l.names l.number (drop l.input-index l.inputs.more)) ≡ inputs_of l.names l.inputs; number : l.number ≡ suc l.input-index }
