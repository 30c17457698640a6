use Rattle.std.proofs.Common.{rules, ◌≡◌, ◌≤◌, ◌<◌, ◌+◌, ◌*◌, ◌+ℤ◌, ◌-ℤ◌, length, unsigned_abs, IsTrue, ℕ, ℤ, pos, FitsSigned, w64, to_z, of_z, List, subst, sym, ap, ◌∙◌, arith, drop}
use Rattle.std.proofs.lemmas.Int.{to_z-of_z, fits_signed_from_abs}
use Rattle.affine_maps.specs.Map.{terms_fit}
use Rattle.affine_maps.specs.Value.{weighted_sum}
use Rattle.affine_maps.proofs.Integers.{sum_abs}
use Rattle.affine_maps.proofs.Listed.{fitting_at, fitting_length, weighted_step, weighted_end}
use Rattle.operand_slices.specs.Slices.{number_at}
use Rattle.operand_slices.proofs.sums.sum_at.Goals as goal

pub term_value-value-requires-clause-coefficient : goal.term_value-value-requires-clause-coefficient
term_value-value-requires-clause-coefficient c = (fitting_at c.args.dims c.args.terms.now 0 c.loop-term.term-index (0, pos 0)
    c.requires.fits c.loop-term-test.true).1

sum_small : (dims : ℕ) (ts : List (ℕ × ℤ)) (i : ℕ) (s r : ℤ) → IsTrue (terms_fit dims ts 0) → dims ≤ 12 → i < length ts →
    unsigned_abs s ≤ 2147483648 + i * 9007199254740992 →
    unsigned_abs r ≤ 9007199254740992 → (unsigned_abs (s +ℤ r) ≤ 2147483648 + (i + 1) * 9007199254740992) × FitsSigned w64 (s +ℤ r)
sum_small dims ts i s r f d h p q =
    let e = fitting_length dims ts 0 f (omega arith) in
    let a = sum_abs s r (2147483648 + i * 9007199254740992) 9007199254740992 p q in
    (omega arith, fits_signed_from_abs w64 (s +ℤ r) (omega arith))

sum_is : (s r : ℤ) → FitsSigned w64 (s +ℤ r) → FitsSigned w64 r → to_z w64 (of_z w64 (s +ℤ to_z w64 (of_z w64 r))) ≡ s +ℤ r
sum_is s r f g = ap (λ (x : ℤ). to_z w64 (of_z w64 (s +ℤ x))) (to_z-of_z w64 r g) ∙ to_z-of_z w64 (s +ℤ r) f

pub overflow_add-sum : goal.overflow_add-sum
overflow_add-sum c =
    let g : FitsSigned w64 c.term_value-value.result = search rules in
    let m = sum_small c.args.dims c.args.terms.now c.loop-term.term-index (to_z w64 c.loop-term.sum-bits) c.term_value-value.result
    c.requires.fits c.requires.few c.loop-term-test.true
    c.loop-term.invariant.small c.term_value-value.ensures.small in
    subst (λ (x : ℤ). FitsSigned w64 (to_z w64 c.loop-term.sum-bits +ℤ x)) (sym (to_z-of_z w64 c.term_value-value.result g)) m.1

pub loop-term-preserved : goal.loop-term-preserved
loop-term-preserved c =
    let at : ℕ → ℤ = λ d. number_at c.args.entries.now d -ℤ pos c.args.less in
    let g : FitsSigned w64 c.term_value-value.result = search rules in
    let m = sum_small c.args.dims c.args.terms.now c.loop-term.term-index (to_z w64 c.loop-term.sum-bits) c.term_value-value.result
    c.requires.fits c.requires.few c.loop-term-test.true
    c.loop-term.invariant.small c.term_value-value.ensures.small in
    let e = sum_is (to_z w64 c.loop-term.sum-bits) c.term_value-value.result m.1 g in
    let w = weighted_step c.args.terms.now at c.loop-term.term-index (to_z w64 c.loop-term.sum-bits) c.term_value-value.result _
    c.loop-term-test.true c.loop-term.invariant.value
    c.term_value-value.ensures.value in
    record {
      value = ap (λ (x : ℤ). x +ℤ weighted_sum (drop (c.loop-term.term-index + 1) c.args.terms.now) at) e ∙ w;
      small = subst (λ (x : ℤ). unsigned_abs x ≤ 2147483648 + (c.loop-term.term-index + 1) * 9007199254740992) (sym e) m.0;
    }

pub returns : goal.returns
returns c =
    let at : ℕ → ℤ = λ d. number_at c.args.entries.now d -ℤ pos c.args.less in
    weighted_end c.args.terms.now at c.loop-term.term-index (to_z w64 c.loop-term.sum-bits) _ c.loop-term-test.false
    c.loop-term.invariant.value
    ∙ ap (λ (x : ℤ). x +ℤ weighted_sum c.args.terms.now at) (to_z-of_z w64 c.args.constant (fits_signed_from_abs w64 c.args.constant
    (omega arith)))
