use Rattle.step_results.proofs.Generalized.{generalized_verifies}
use Rattle.step_results.proofs.Interchanged.{interchanged_verifies}
use Rattle.step_results.proofs.laws.formed_modules_verify.Goals as goal

pub returns-clause-generalized : goal.returns-clause-generalized
returns-clause-generalized c = generalized_verifies

pub returns-clause-interchanged : goal.returns-clause-interchanged
returns-clause-interchanged c = interchanged_verifies
