use Rattle.mlir_scope.proofs.Elements.{mul_small}
use Rattle.mlir_scope.proofs.typing.with_axis.Goals as goal

pub overflow_mul-more : goal.overflow_mul-more
overflow_mul-more c = record { fits = mul_small c.args.product c.counted-count.result c.requires c.counted-count.ensures.small }
