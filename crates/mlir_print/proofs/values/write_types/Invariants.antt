use Rattle.std.proofs.Common.{◌≡◌, ◌++◌, [], drop}
use Rattle.mlir_print.specs.Returns.{types_text}
use Rattle.mlir_print.proofs.values.write_types.Given as goal

abbrev pub invariant-loop-value : goal.invariant-loop-value
invariant-loop-value l = l.out.items ++ types_text l.names.rows l.before (drop l.value-index l.values) ≡ l.fn.out.items ++ types_text l.names.rows [] l.values
