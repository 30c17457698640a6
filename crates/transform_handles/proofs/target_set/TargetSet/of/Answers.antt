use Rattle.std.proofs.Common.{[]}
use Rattle.transform_handles.proofs.target_set.TargetSet.of.Goals as goal

pub returns-in-Ok : goal.returns-in-Ok
returns-in-Ok c = c.in-Ok.ensures [] c.new-set.ensures
