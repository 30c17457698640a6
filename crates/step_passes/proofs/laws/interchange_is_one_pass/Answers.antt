use Rattle.step_passes.proofs.Passing.{interchanging_one_pass}
use Rattle.step_passes.proofs.laws.interchange_is_one_pass.Goals as goal

pub returns : goal.returns
returns c = interchanging_one_pass
