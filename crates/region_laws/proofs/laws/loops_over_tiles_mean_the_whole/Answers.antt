use Rattle.region_laws.proofs.Stated.{tile_for, tile_forall_is}
use Rattle.region_laws.proofs.laws.loops_over_tiles_mean_the_whole.Goals as goal

pub returns-clause-nest : goal.returns-clause-nest
returns-clause-nest c = tile_for

pub returns-clause-at_once : goal.returns-clause-at_once
returns-clause-at_once c = tile_forall_is
