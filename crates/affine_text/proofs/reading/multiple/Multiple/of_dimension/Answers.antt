use Rattle.std.proofs.Common.{◌∙◌}
use Rattle.affine_text.proofs.Scaling.{scaled_one}
use Rattle.affine_text.proofs.reading.multiple.Multiple.of_dimension.Goals as goal

pub returns-clause-value : goal.returns-clause-value
returns-clause-value c = scaled_one c.in_ok-form.form ∙ c.in_ok-form.ensures
