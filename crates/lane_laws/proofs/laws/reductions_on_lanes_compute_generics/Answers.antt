use Rattle.lane_laws.proofs.Parallel.{outputs}
use Rattle.lane_laws.proofs.Stated.{reduced, chosen}
use Rattle.lane_laws.proofs.laws.reductions_on_lanes_compute_generics.Goals as goal

pub returns-clause-reduced : goal.returns-clause-reduced
returns-clause-reduced c = reduced

pub returns-clause-masks : goal.returns-clause-masks
returns-clause-masks c = chosen

pub returns-clause-kept : goal.returns-clause-kept
returns-clause-kept c = outputs
