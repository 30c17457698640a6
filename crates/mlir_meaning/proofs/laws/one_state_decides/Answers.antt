use Rattle.mlir_meaning.proofs.OneState.{one_state_replacement}
use Rattle.mlir_meaning.proofs.laws.one_state_decides.Goals as goal

pub returns : goal.returns
returns c = one_state_replacement
