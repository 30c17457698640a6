use Rattle.std.proofs.Common.{◌≡◌, drop}
use Rattle.mlir_print.specs.MapParts.{after_ops_texts}
use Rattle.mlir_print.proofs.text.add_ops.Given as goal

abbrev pub invariant-loop-op : goal.invariant-loop-op
invariant-loop-op l = after_ops_texts l.aliases (drop l.op-index l.body) ≡ after_ops_texts l.fn.aliases l.body
