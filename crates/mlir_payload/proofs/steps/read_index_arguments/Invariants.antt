use Rattle.std.proofs.Common.{◌≡◌, ◌<◌, drop, length}
use Rattle.mlir_lex.specs.Chain.{thread}
use Rattle.mlir_payload.specs.Steps.{index_argument}
use Rattle.mlir_lex.proofs.Loops.{onto_with}
use Rattle.mlir_payload.proofs.steps.read_index_arguments.Given as goal

abbrev pub invariant-loop-operand : goal.invariant-loop-operand
invariant-loop-operand l = record { found : onto_with l.found (thread (index_argument l.outer) l.inside (drop l.operand-index l.operands)) ≡ thread (index_argument l.outer) l.fn.inside l.operands; few : length l.inside.steps < 1024 }
