use Rattle.structured_steps.proofs.Generalized.{generalize_keeps}
use Rattle.structured_steps.proofs.laws.generalize_keeps_meaning.Goals as goal

pub returns : goal.returns
returns c = generalize_keeps
