use Rattle.std.proofs.Common.{◌∙◌, ap, ◌*◌, arith}
use Rattle.mlir_resolve.proofs.Nested.{product_step}
use Rattle.mlir_resolve.proofs.dense.product.Goals as goal

pub loop-extent-preserved : goal.loop-extent-preserved
loop-extent-preserved c = product_step c.args.extents.now c.loop-extent.extent-index _ c.loop-extent.product c.in-Some.next (omega arith) (c.in-Some.ensures.1 ∙ ap (λ n. c.loop-extent.product * n) c.counted.ensures.exact) ∙ c.loop-extent.invariant
