use Rattle.pair_laws.proofs.Pairing.{pair_keeps}
use Rattle.pair_laws.proofs.laws.pairs_are_fused.Goals as goal

pub returns : goal.returns
returns c = pair_keeps
