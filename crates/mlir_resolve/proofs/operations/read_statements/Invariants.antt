use Rattle.std.proofs.Common.{◌≡◌, drop}
use Rattle.mlir_lex.specs.Chain.{thread}
use Rattle.mlir_scope.specs.Scope.{IsSound}
use Rattle.mlir_resolve.specs.Operations.{statement_of, statements_of}
use Rattle.mlir_lex.proofs.Loops.{onto_with}
use Rattle.mlir_resolve.proofs.operations.read_statements.Given as goal

abbrev pub invariant-loop-statement : goal.invariant-loop-statement
invariant-loop-statement l = record { found : onto_with l.found (thread (statement_of l.aliases) l.scope (drop l.statement-index l.list)) ≡ statements_of l.aliases l.fn.scope l.list; sound : IsSound l.scope }
