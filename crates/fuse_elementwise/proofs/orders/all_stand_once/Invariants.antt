use Rattle.std.proofs.Common.{◌≡◌, ◌-◌}
use Rattle.std.specs.List.{list_all}
use Rattle.mlir_meaning.specs.Grids.{count_up}
use Rattle.point_laws.specs.Orders.{stands_once}
use Rattle.fuse_elementwise.proofs.orders.all_stand_once.Given as goal

abbrev pub invariant-loop-k : goal.invariant-loop-k
invariant-loop-k l = list_all (stands_once l.order l.n) (count_up l.k (l.n - l.k)) ≡ list_all (stands_once l.order l.n) (count_up 0 l.n)
