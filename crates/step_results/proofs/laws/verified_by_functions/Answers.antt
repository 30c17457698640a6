use Rattle.step_results.proofs.Modules.{verified_by_functions}
use Rattle.step_results.proofs.laws.verified_by_functions.Goals as goal

pub returns : goal.returns
returns c = verified_by_functions
