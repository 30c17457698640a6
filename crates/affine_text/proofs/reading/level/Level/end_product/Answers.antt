use Rattle.affine_text.proofs.Levels.{sum_ends, sum_far}
use Rattle.affine_text.proofs.reading.level.Level.end_product.Goals as goal

pub returns-in-Ok-true : goal.returns-in-Ok-true
returns-in-Ok-true c = λ at. sum_ends c.args.self.subtracts at c.args.self.sum c.args.self.product c.signed.result c.add-2.new.self c.in-Ok-true.field-0 c.signed.ensures c.in-Ok-true.field-0-test c.in-Ok-true.ensures

pub returns-in-Ok-false : goal.returns-in-Ok-false
returns-in-Ok-false c = λ at. sum_far c.args.self.subtracts at c.args.self.sum c.args.self.product c.signed.result c.add-2.new.self c.in-Ok-false.field-0 c.signed.ensures c.in-Ok-false.field-0-test c.in-Ok-false.ensures
