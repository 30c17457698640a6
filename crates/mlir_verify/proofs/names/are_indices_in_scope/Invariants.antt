use Rattle.std.proofs.Common.{◌≡◌, drop}
use Rattle.mlir_ir.specs.Count.{idx_values}
use Rattle.mlir_verify.specs.Names.{in_scope}
use Rattle.mlir_verify.specs.Scope.{types_in}
use Rattle.mlir_verify.proofs.names.are_indices_in_scope.Given as goal

abbrev pub invariant-loop-i : goal.invariant-loop-i
invariant-loop-i l = in_scope (types_in l.scope) (idx_values (drop l.i-index l.indices)) ≡ in_scope (types_in l.scope) (idx_values l.indices)
