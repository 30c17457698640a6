use Rattle.verified_runs.proofs.Safe.{comes_safe}
use Rattle.verified_runs.proofs.laws.verified_functions_read_inside.Goals as goal

pub returns : goal.returns
returns c = comes_safe
