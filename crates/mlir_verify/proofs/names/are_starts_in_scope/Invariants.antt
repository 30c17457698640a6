use Rattle.std.proofs.Common.{◌≡◌, drop, map}
use Rattle.mlir_verify.specs.Names.{in_scope}
use Rattle.mlir_verify.specs.Scope.{types_in}
use Rattle.mlir_verify.proofs.names.are_starts_in_scope.Given as goal

abbrev pub invariant-loop-c : goal.invariant-loop-c
invariant-loop-c l = in_scope (types_in l.scope) (map (λ c. c.2) (drop l.c-index l.carried)) ≡ in_scope (types_in l.scope) (map (λ c. c.2) l.carried)
