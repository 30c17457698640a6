use Rattle.std.proofs.Common.{◌≡◌, ◌≤◌, ◌+◌, ◌*◌, ◌^◌, ◌+ℤ◌, ◌-ℤ◌, pos, unsigned_abs, drop}
use Rattle.affine_maps.specs.Value.{weighted_sum}
use Rattle.operand_slices.specs.Slices.{number_at}
use Rattle.operand_slices.proofs.sums.sum_at.Given as goal

abbrev pub invariant-loop-term : goal.invariant-loop-term
invariant-loop-term l = record {
  value : l.sum +ℤ weighted_sum (drop l.term-index l.terms) (λ d. number_at l.entries d -ℤ pos l.less)
      ≡ l.constant +ℤ weighted_sum l.terms (λ d. number_at l.entries d -ℤ pos l.less);
  small : unsigned_abs l.sum ≤ 2 ^ 31 + l.term-index * 2 ^ 53;
}
