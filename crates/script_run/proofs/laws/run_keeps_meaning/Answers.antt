use Rattle.script_run.proofs.Meanings.{run_keeps_functions}
use Rattle.script_run.proofs.laws.run_keeps_meaning.Goals as goal

pub returns : goal.returns
returns c = run_keeps_functions
