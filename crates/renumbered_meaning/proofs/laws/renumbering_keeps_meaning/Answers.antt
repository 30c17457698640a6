use Rattle.renumbered_meaning.proofs.Modules.{renumbered_means}
use Rattle.renumbered_meaning.proofs.laws.renumbering_keeps_meaning.Goals as goal

pub returns : goal.returns
returns c = renumbered_means
