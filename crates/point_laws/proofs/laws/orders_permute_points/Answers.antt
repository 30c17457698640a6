use Rattle.point_laws.proofs.Stated.{orders_permute}
use Rattle.point_laws.proofs.laws.orders_permute_points.Goals as goal

pub returns : goal.returns
returns c = orders_permute
