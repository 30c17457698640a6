use Rattle.std.proofs.Common.{rules, ◌≡◌, ◌<◌, ◌+◌, ◌*◌, ◌≤◌, length, pos, get_or, ℤ, ℕ, ◌+ℤ◌, ◌*ℤ◌, List, drop, arith, sym, subst, ap, ◌∙◌, FitsSigned, w64, to_z, unsigned_abs, IsTrue}
use mir.Syntax.{w128}
use Rattle.affine_maps.specs.Map.{terms_fit}
use Rattle.affine_maps.specs.Value.{weighted_sum}
use Rattle.affine_maps.proofs.Integers.{wide_sum, sum_fits, sum_abs, fits_abs}
use Rattle.affine_maps.proofs.Listed.{and_right, fitting_at, weighted_step, weighted_end}
use Rattle.mlir_verify.specs.Stages.{extent_in}
use Rattle.mlir_verify.specs.Windows.{greatest}
use Rattle.mlir_verify.proofs.windows.greatest_value.Goals as goal

pub greatest_term-part-requires : goal.greatest_term-part-requires
greatest_term-part-requires c =
    let fits = subst (λ (ts : List (ℕ × ℤ)). IsTrue (terms_fit c.args.dims ts 0)) (sym c.as_slice-term-items.ensures) (and_right _ _ c.requires) in
    (fitting_at c.args.dims c.as_slice-term-items.result.now 0 c.loop-term.term-index (0, pos 0) fits c.loop-term-test.true).1

pub returns : goal.returns
returns c =
    let k = subst (λ (ts : List (ℕ × ℤ)). length ts ≤ c.loop-term.term-index) c.as_slice-term-items.ensures c.loop-term-test.false in
    weighted_end c.args.e.now.terms (λ d. greatest (extent_in c.args.extents.now d)) c.loop-term.term-index (to_z w128 c.loop-term.sum-bits) _ k c.loop-term.invariant.value

pub loop-term-preserved : goal.loop-term-preserved
loop-term-preserved c =
    let at = λ (d : ℕ). greatest (extent_in c.args.extents.now d) in
    let r : FitsSigned w64 c.greatest_term-part.result = search rules in
    let same = c.as_slice-term-items.ensures in
    let k : c.loop-term.term-index < length c.args.e.now.terms = subst (λ (ts : List (ℕ × ℤ)). c.loop-term.term-index < length ts) same c.loop-term-test.true in
    let v = subst (λ (ts : List (ℕ × ℤ)). c.greatest_term-part.result ≡ (get_or ts c.loop-term.term-index (0, pos 0)).1 *ℤ greatest (extent_in c.args.extents.now (get_or ts c.loop-term.term-index (0, pos 0)).0)) same c.greatest_term-part.ensures in
    let w = weighted_step c.args.e.now.terms at c.loop-term.term-index (to_z w128 c.loop-term.sum-bits) c.greatest_term-part.result _ k c.loop-term.invariant.value v in
    let few : c.loop-term.term-index < 9223372036854775808 = omega arith in
    let f = sum_fits (to_z w128 c.loop-term.sum-bits) c.greatest_term-part.result (9223372036854775808 + c.loop-term.term-index * 9223372036854775808) r c.loop-term.invariant.small (omega arith) in
    let e = wide_sum (to_z w128 c.loop-term.sum-bits) c.greatest_term-part.result r f in
    let bound = sum_abs (to_z w128 c.loop-term.sum-bits) c.greatest_term-part.result (9223372036854775808 + c.loop-term.term-index * 9223372036854775808) 9223372036854775808 c.loop-term.invariant.small (fits_abs c.greatest_term-part.result r) in
    record {
      value = ap (λ (z : ℤ). z +ℤ weighted_sum (drop (c.loop-term.term-index + 1) c.args.e.now.terms) at) e ∙ w;
      small = subst (λ (z : ℤ). unsigned_abs z ≤ 9223372036854775808 + (c.loop-term.term-index + 1) * 9223372036854775808) (sym e) (omega arith);
    }
