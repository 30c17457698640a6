use Rattle.affine_text.proofs.Multiplying.{product_value}
use Rattle.affine_text.proofs.reading.multiple.product.Goals as goal

pub returns : goal.returns
returns c = product_value c.args.a c.args.b c.ranges.a c.ranges.b c.requires.a c.requires.b
