use Rattle.operand_slices.proofs.Worth.{offsets_are_at_offsets}
use Rattle.operand_slices.proofs.laws.offsets_are_at_offsets.Goals as goal

pub returns : goal.returns
returns c = offsets_are_at_offsets
