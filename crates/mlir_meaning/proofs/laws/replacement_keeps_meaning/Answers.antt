use Rattle.mlir_meaning.proofs.Replaced.{replacement_keeps}
use Rattle.mlir_meaning.proofs.laws.replacement_keeps_meaning.Goals as goal

pub returns : goal.returns
returns c = replacement_keeps
