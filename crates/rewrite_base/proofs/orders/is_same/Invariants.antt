use Rattle.std.proofs.Common.{◌≡◌, drop}
use Rattle.mlir_meaning.specs.Grids.{same_point}
use Rattle.rewrite_base.proofs.orders.is_same.Given as goal

abbrev pub invariant-loop-k : goal.invariant-loop-k
invariant-loop-k l = same_point (drop l.k l.a) (drop l.k l.b) ≡ same_point l.a l.b
