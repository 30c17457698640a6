use Rattle.std.proofs.Common.{◌≡◌, take}
use Rattle.mlir_copy.proofs.tree.+copies.Given as goal

abbrev pub invariant-copy_body-loop-op : goal.invariant-copy_body-loop-op
invariant-copy_body-loop-op l = l.copies ≡ take l.op-index l.ops
