use Rattle.mlir_meaning.proofs.Renamed.{renaming_keeps}
use Rattle.mlir_meaning.proofs.laws.numbers_carry_no_meaning.Goals as goal

pub returns : goal.returns
returns c = renaming_keeps
