use Rattle.std.proofs.Common.{◌≡◌, drop}
use Rattle.mlir_lex.specs.Chain.{each}
use Rattle.mlir_scope.specs.Scope.{value_id}
use Rattle.mlir_read.specs.Resolve.{value_ids}
use Rattle.mlir_lex.proofs.Loops.{onto}
use Rattle.mlir_read.proofs.functions.read_values.Given as goal

abbrev pub invariant-loop-next : goal.invariant-loop-next
invariant-loop-next l = onto l.found (each (λ n. value_id l.names n.name) (drop l.next-index l.values.more)) ≡ value_ids l.names l.values
