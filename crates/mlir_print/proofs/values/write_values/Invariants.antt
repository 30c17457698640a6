use Rattle.std.proofs.Common.{◌≡◌, ◌++◌, [], drop}
use Rattle.mlir_print.specs.Returns.{values_text}
use Rattle.mlir_print.proofs.values.write_values.Given as goal

abbrev pub invariant-loop-value : goal.invariant-loop-value
invariant-loop-value l = l.out.items ++ values_text l.names.rows l.before (drop l.value-index l.values) ≡ l.fn.out.items ++ values_text l.names.rows [] l.values
