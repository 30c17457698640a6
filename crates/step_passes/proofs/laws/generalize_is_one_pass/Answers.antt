use Rattle.step_passes.proofs.Passing.{generalizing_one_pass}
use Rattle.step_passes.proofs.laws.generalize_is_one_pass.Goals as goal

pub returns : goal.returns
returns c = generalizing_one_pass
