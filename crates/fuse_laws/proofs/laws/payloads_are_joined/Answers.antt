use Rattle.fuse_laws.proofs.Joining.{joined_gives, joined_fits}
use Rattle.fuse_laws.proofs.laws.payloads_are_joined.Goals as goal

pub returns-clause-gives : goal.returns-clause-gives
returns-clause-gives c = joined_gives

pub returns-clause-fits : goal.returns-clause-fits
returns-clause-fits c = joined_fits
