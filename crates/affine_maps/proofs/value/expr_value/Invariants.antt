use Rattle.std.proofs.Common.{◌≡◌, ◌≤◌, ◌+◌, ◌*◌, ◌^◌, ◌+ℤ◌, unsigned_abs, drop}
use Rattle.affine_maps.specs.Value.{value_at, weighted_sum, coordinate}
use Rattle.affine_maps.proofs.value.expr_value.Given as goal

abbrev pub invariant-loop-term : goal.invariant-loop-term
invariant-loop-term l = record {
  value : l.sum +ℤ weighted_sum (drop l.term-index l.expr.terms) (coordinate l.point) ≡ value_at l.expr l.point;
  small : unsigned_abs l.sum ≤ 2 ^ 31 + l.term-index * 2 ^ 51;
}
