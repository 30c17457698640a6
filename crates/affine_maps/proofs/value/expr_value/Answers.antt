use Rattle.std.proofs.Common.{rules, ◌≡◌, ◌≤◌, ◌<◌, ◌+◌, ◌*◌, ◌+ℤ◌, length, unsigned_abs, IsTrue, ℕ, ℤ, pos, FitsSigned, w64, to_z, of_z, get_or, List, subst, sym, ap, ◌∙◌, arith, drop, ◌*ℤ◌}
use Rattle.std.proofs.lemmas.Int.{to_z-of_z, fits_signed_from_abs}
use Rattle.affine_maps.specs.Map.{terms_fit}
use Rattle.affine_maps.specs.Value.{coordinate, weighted_sum}
use Rattle.affine_maps.proofs.Integers.{sum_abs}
use Rattle.affine_maps.proofs.Listed.{and_right, fitting_at, fitting_length, weighted_step}
use Rattle.affine_maps.proofs.value.expr_value.Goals as goal

pub term_value-value-requires-clause-dimension : goal.term_value-value-requires-clause-dimension
term_value-value-requires-clause-dimension c =
    let fits = subst (λ (ts : List (ℕ × ℤ)). IsTrue (terms_fit c.args.dims ts 0)) (sym c.as_slice-term-items.ensures) (and_right _ _ c.requires.fits) in
    let k : c.loop-term.term-index < length c.as_slice-term-items.result.now = omega arith in
    let at = fitting_at c.args.dims c.as_slice-term-items.result.now 0 c.loop-term.term-index (0, pos 0) fits k in
    omega (arith, at.0)

pub term_value-value-requires-clause-coefficient : goal.term_value-value-requires-clause-coefficient
term_value-value-requires-clause-coefficient c =
    let fits = subst (λ (ts : List (ℕ × ℤ)). IsTrue (terms_fit c.args.dims ts 0)) (sym c.as_slice-term-items.ensures) (and_right _ _ c.requires.fits) in
    let k : c.loop-term.term-index < length c.as_slice-term-items.result.now = omega arith in
    (fitting_at c.args.dims c.as_slice-term-items.result.now 0 c.loop-term.term-index (0, pos 0) fits k).1

sum_small : (dims : ℕ) (ts : List (ℕ × ℤ)) (i : ℕ) (s r : ℤ) → IsTrue (terms_fit dims ts 0) → dims ≤ 1024 → i < length ts → unsigned_abs s ≤ 2147483648 + i * 2251799813685248 → unsigned_abs r ≤ 2251799813685248 →
    (unsigned_abs (s +ℤ r) ≤ 2147483648 + (i + 1) * 2251799813685248) × FitsSigned w64 (s +ℤ r)
sum_small dims ts i s r f d h p q =
    let e = fitting_length dims ts 0 f (omega arith) in
    let a = sum_abs s r (2147483648 + i * 2251799813685248) 2251799813685248 p q in
    (omega arith, fits_signed_from_abs w64 (s +ℤ r) (omega arith))

sum_is : (s r : ℤ) → FitsSigned w64 (s +ℤ r) → FitsSigned w64 r → to_z w64 (of_z w64 (s +ℤ to_z w64 (of_z w64 r))) ≡ s +ℤ r
sum_is s r f g = ap (λ (x : ℤ). to_z w64 (of_z w64 (s +ℤ x))) (to_z-of_z w64 r g) ∙ to_z-of_z w64 (s +ℤ r) f

pub overflow_add-sum : goal.overflow_add-sum
overflow_add-sum c =
    let k : c.loop-term.term-index < length c.args.expr.now.terms = subst (λ (ts : List (ℕ × ℤ)). c.loop-term.term-index < length ts) c.as_slice-term-items.ensures c.loop-term-test.true in
    let g : FitsSigned w64 c.term_value-value.result = search rules in
    let m = sum_small c.args.dims c.args.expr.now.terms c.loop-term.term-index (to_z w64 c.loop-term.sum-bits) c.term_value-value.result (and_right _ _ c.requires.fits) c.requires.few k c.loop-term.invariant.small c.term_value-value.ensures.small in
    subst (λ (x : ℤ). FitsSigned w64 (to_z w64 c.loop-term.sum-bits +ℤ x)) (sym (to_z-of_z w64 c.term_value-value.result g)) m.1

pub loop-term-preserved : goal.loop-term-preserved
loop-term-preserved c =
    let k : c.loop-term.term-index < length c.args.expr.now.terms = subst (λ (ts : List (ℕ × ℤ)). c.loop-term.term-index < length ts) c.as_slice-term-items.ensures c.loop-term-test.true in
    let g : FitsSigned w64 c.term_value-value.result = search rules in
    let m = sum_small c.args.dims c.args.expr.now.terms c.loop-term.term-index (to_z w64 c.loop-term.sum-bits) c.term_value-value.result (and_right _ _ c.requires.fits) c.requires.few k c.loop-term.invariant.small c.term_value-value.ensures.small in
    let e = sum_is (to_z w64 c.loop-term.sum-bits) c.term_value-value.result m.1 g in
    let v = subst (λ (ts : List (ℕ × ℤ)). c.term_value-value.result ≡ (get_or ts c.loop-term.term-index (0, pos 0)).1 *ℤ coordinate c.args.point.now (get_or ts c.loop-term.term-index (0, pos 0)).0) c.as_slice-term-items.ensures c.term_value-value.ensures.value in
    let w = weighted_step c.args.expr.now.terms (coordinate c.args.point.now) c.loop-term.term-index (to_z w64 c.loop-term.sum-bits) c.term_value-value.result _ k c.loop-term.invariant.value v in
    record {
      value = ap (λ (x : ℤ). x +ℤ weighted_sum (drop (c.loop-term.term-index + 1) c.args.expr.now.terms) (coordinate c.args.point.now)) e ∙ w;
      small = subst (λ (x : ℤ). unsigned_abs x ≤ 2147483648 + (c.loop-term.term-index + 1) * 2251799813685248) (sym e) m.0;
    }
