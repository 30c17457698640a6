use Rattle.fuse_elementwise.proofs.Formed.{fused_keeps, fused_verifies}
use Rattle.fuse_elementwise.proofs.laws.fused_module_keeps_meaning.Goals as goal

pub returns-clause-meaning : goal.returns-clause-meaning
returns-clause-meaning c = fused_keeps

pub returns-clause-verifies : goal.returns-clause-verifies
returns-clause-verifies c = fused_verifies
