use Rattle.affine_text.proofs.Multiplying.{number_value}
use Rattle.affine_text.proofs.reading.multiple.Multiple.of_number.Goals as goal

pub returns-clause-value : goal.returns-clause-value
returns-clause-value c = number_value c.args.number c.constant_form.result c.ranges.number c.constant_form.ensures
