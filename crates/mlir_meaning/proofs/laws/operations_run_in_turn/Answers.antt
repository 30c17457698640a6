use Rattle.mlir_meaning.proofs.Runs.{run-append}
use Rattle.mlir_meaning.proofs.laws.operations_run_in_turn.Goals as goal

pub returns : goal.returns
returns c = run-append
