use Rattle.point_laws.proofs.Inside.{points_inside}
use Rattle.point_laws.proofs.Stated.{further_points}
use Rattle.point_laws.proofs.laws.boxes_hold_boxes.Goals as goal

pub returns-clause-order : goal.returns-clause-order
returns-clause-order c = points_inside

pub returns-clause-folds : goal.returns-clause-folds
returns-clause-folds c = further_points
