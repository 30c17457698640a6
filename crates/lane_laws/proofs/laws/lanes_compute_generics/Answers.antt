use Rattle.lane_laws.proofs.Stated.{lanes}
use Rattle.lane_laws.proofs.laws.lanes_compute_generics.Goals as goal

pub returns : goal.returns
returns c = lanes
