use Rattle.step_results.proofs.Edits.{edits_verify}
use Rattle.step_results.proofs.laws.edits_verify.Goals as goal

pub returns : goal.returns
returns c = edits_verify
