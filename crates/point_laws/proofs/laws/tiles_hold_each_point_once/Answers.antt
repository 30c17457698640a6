use Rattle.point_laws.proofs.Cuts.{tile_cut}
use Rattle.point_laws.proofs.Ragged.{lies_in_tile, ragged}
use Rattle.point_laws.proofs.Windows.{points_in_window}
use Rattle.point_laws.proofs.laws.tiles_hold_each_point_once.Goals as goal

pub returns-clause-ragged : goal.returns-clause-ragged
returns-clause-ragged c = ragged

pub returns-clause-one : goal.returns-clause-one
returns-clause-one c = lies_in_tile

pub returns-clause-order : goal.returns-clause-order
returns-clause-order c = points_in_window

pub returns-clause-fit : goal.returns-clause-fit
returns-clause-fit c = tile_cut
