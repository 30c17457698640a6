use Rattle.pair_laws.proofs.Formed.{fused_passes}
use Rattle.pair_laws.proofs.Keeping.{first_pair_stands, first_pair_keeps}
use Rattle.pair_laws.proofs.laws.first_pairs_are_fused.Goals as goal

pub returns-clause-stands : goal.returns-clause-stands
returns-clause-stands c = first_pair_stands

pub returns-clause-keeps : goal.returns-clause-keeps
returns-clause-keeps c = first_pair_keeps

pub returns-clause-passes : goal.returns-clause-passes
returns-clause-passes c = fused_passes
