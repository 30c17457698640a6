use Rattle.std.proofs.Common.{◌≡◌, ◌≤◌, ◌+◌, ◌*◌, ◌^◌, ◌+ℤ◌, unsigned_abs, drop}
use Rattle.affine_maps.specs.Value.{weighted_sum}
use Rattle.mlir_verify.specs.Stages.{extent_in}
use Rattle.mlir_verify.specs.Windows.{greatest, greatest_value}
use Rattle.mlir_verify.proofs.windows.greatest_value.Given as goal

abbrev pub invariant-loop-term : goal.invariant-loop-term
invariant-loop-term l = record {
  value : l.sum +ℤ weighted_sum (drop l.term-index l.e.terms) (λ d. greatest (extent_in l.extents d)) ≡ greatest_value (extent_in l.extents) l.e;
  small : unsigned_abs l.sum ≤ 2 ^ 63 + l.term-index * 2 ^ 63;
}
