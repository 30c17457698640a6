use Rattle.mlir_meaning.proofs.Replaced.{place_runs_alike, context_keeps}
use Rattle.mlir_meaning.proofs.laws.context_keeps_meaning.Goals as goal

pub returns-clause-alike : goal.returns-clause-alike
returns-clause-alike c = place_runs_alike

pub returns-clause-meaning : goal.returns-clause-meaning
returns-clause-meaning c = context_keeps
