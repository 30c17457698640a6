use Rattle.tile_bridge.proofs.Stated.{runs_reach}
use Rattle.tile_bridge.proofs.laws.runs_reach_instances.Goals as goal

pub returns : goal.returns
returns c = runs_reach
