use Rattle.std.proofs.Common.{◌≡◌, ◌+◌, drop}
use Rattle.mlir_ir.specs.Count.{names, uses_op}
use Rattle.mlir_ir.specs.declared.tree.ValueId.{ValueId}
use Rattle.use_counts.proofs.walk.+walk.Given as goal

abbrev pub invariant-push_body-loop-op : goal.invariant-push_body-loop-op
invariant-push_body-loop-op l = (v : ValueId) → names v l.out.items + uses_op v (drop l.op-index l.ops) ≡ names v l.fn.out.items + uses_op v l.ops
