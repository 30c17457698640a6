use Rattle.std.proofs.Common.{◌≡◌, drop}
use Rattle.mlir_lex.specs.Chain.{thread, behind_these}
use Rattle.mlir_read.specs.Resolve.{function_of, functions_of, IsFileSound}
use Rattle.mlir_read.proofs.files.read_functions.Given as goal

abbrev pub invariant-loop-function : goal.invariant-loop-function
invariant-loop-function l = record { found : behind_these l.found (thread function_of l.scope (drop l.function-index l.list)) ≡ behind_these l.fn.found (functions_of l.fn.scope l.list); sound : IsFileSound l.scope }
