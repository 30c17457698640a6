use Rattle.std.proofs.Common.{◌≡◌, drop}
use Rattle.mlir_lex.specs.Chain.{thread}
use Rattle.mlir_scope.specs.Scope.{param_of, params_of, IsOpening}
use Rattle.mlir_lex.proofs.Loops.{onto_with}
use Rattle.mlir_scope.proofs.values.read_params.Given as goal

abbrev pub invariant-loop-param : goal.invariant-loop-param
invariant-loop-param l = record { found : onto_with l.found (thread param_of l.scope (drop l.param-index l.list)) ≡ params_of l.fn.scope l.list; sound : IsOpening l.scope }
