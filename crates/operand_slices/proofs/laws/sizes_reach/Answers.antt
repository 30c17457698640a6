use Rattle.operand_slices.proofs.Worth.{sizes_reach}
use Rattle.operand_slices.proofs.laws.sizes_reach.Goals as goal

pub returns : goal.returns
returns c = sizes_reach
