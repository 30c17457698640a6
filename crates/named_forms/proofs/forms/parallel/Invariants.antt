use Rattle.std.proofs.Common.{◌≡◌, replicate}
use Rattle.mlir_ir.specs.declared.tree.Iter.TheVariants.{Parallel}
use Rattle.named_forms.proofs.forms.parallel.Given as goal

abbrev pub invariant-loop-k : goal.invariant-loop-k
invariant-loop-k l = l.all ≡ replicate l._k Parallel
