use Rattle.mlir_scope.proofs.Elements.{elements_step}
use Rattle.mlir_scope.proofs.typing.has_few_elements.Goals as goal

pub loop-extent-preserved : goal.loop-extent-preserved
loop-extent-preserved c = record {
  few = elements_step c.args.extents.now c.loop-extent.extent-index c.loop-extent.product c.with_axis-product.result _ _ c.loop-extent-test.true c.with_axis-product.ensures.exact c.loop-extent.invariant.few;
  small = c.with_axis-product.ensures.small;
}
