use Rattle.std.proofs.Common.{◌≡◌, ◌+◌, drop}
use Rattle.mlir_ir.specs.Count.{names}
use Rattle.mlir_ir.specs.declared.tree.ValueId.{ValueId}
use Rattle.use_counts.specs.Counts.{count_in}
use Rattle.use_counts.proofs.walk.add_all.Given as goal

abbrev pub invariant-loop-v : goal.invariant-loop-v
invariant-loop-v l = (v : ValueId) → count_in l.counts v.0 + names v (drop l.v-index l.list) ≡ count_in l.fn.counts v.0 + names v l.list
