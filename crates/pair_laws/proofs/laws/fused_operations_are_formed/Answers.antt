use Rattle.pair_laws.proofs.Capturing.{captured_meet}
use Rattle.pair_laws.proofs.Forming.{fused_fits}
use Rattle.pair_laws.proofs.Stated.{instances_produce}
use Rattle.pair_laws.proofs.laws.fused_operations_are_formed.Goals as goal

pub returns-clause-captured : goal.returns-clause-captured
returns-clause-captured c = captured_meet

pub returns-clause-payload : goal.returns-clause-payload
returns-clause-payload c = fused_fits

pub returns-clause-producers : goal.returns-clause-producers
returns-clause-producers c = instances_produce
