use Rattle.std.proofs.Common.{◌≡◌, IsTrue, pos, negsuc, ◌+ℤ◌, ◌*ℤ◌, ◌-ℤ◌, ◌<ℤ◌, ◌≤ℤ◌, int_div, w64, ℤ, FitsSigned, to_z, of_z, ap, sym, ◌∙◌, arith, subst}
use Rattle.std.proofs.lemmas.Int.{ints, to_z-of_z, quot_fits}
use Rattle.std.proofs.Math.Nat.{div-mul-le_self}
use Rattle.index_forms.specs.Limit.{in_limit}
use Rattle.index_forms.proofs.Ints.{limit_low, limit_high}
use Rattle.index_forms.proofs.choices.last_of.Goals as goal

product_in : (d s : ℤ) → pos 0 ≤ℤ d → pos 0 <ℤ s → (pos 0 ≤ℤ (int_div d s *ℤ s)) × ((int_div d s *ℤ s) ≤ℤ d)
product_in (pos n) (pos k) h p = let e = div-mul-le_self n k in (omega (arith, ints), omega (arith, ints))
product_in (pos n) (negsuc k) h p = absurd (omega (arith, ints))
product_in (negsuc n) s h p = absurd (omega (arith, ints))

module _ (l u s : ℤ) (fl : FitsSigned w64 l) (fu : FitsSigned w64 u) (fs : FitsSigned w64 s) (hl : IsTrue (in_limit l)) (hu : IsTrue (in_limit u)) (lt : l <ℤ u) (p : pos 0 <ℤ s) where
  one_fits : FitsSigned w64 (u -ℤ pos 1)
  one_fits = let a = limit_low u hu in let b = limit_high u hu in omega (arith, ints)

  most_fits : FitsSigned w64 (u -ℤ pos 1 -ℤ l)
  most_fits = let a = limit_low l hl in let b = limit_high u hu in omega (arith, ints)

  parts_fit : FitsSigned w64 (int_div (u -ℤ pos 1 -ℤ l) s *ℤ s) × FitsSigned w64 (l +ℤ int_div (u -ℤ pos 1 -ℤ l) s *ℤ s)
  parts_fit =
      let i = product_in (u -ℤ pos 1 -ℤ l) s (omega (arith, ints)) p in
      let g : (x : ℤ) → pos 0 ≤ℤ x → x ≤ℤ (u -ℤ pos 1 -ℤ l) → FitsSigned w64 x × FitsSigned w64 (l +ℤ x) =
      λ x h k. (let f = most_fits in omega (arith, ints), omega (arith, ints)) in
      g _ i.0 i.1

  abbrev noisy_most : ℤ
  noisy_most = to_z w64 (of_z w64 (to_z w64 (of_z w64 (to_z w64 (of_z w64 u) -ℤ pos 1)) -ℤ to_z w64 (of_z w64 l)))

  noisy_one_is : to_z w64 (of_z w64 (to_z w64 (of_z w64 u) -ℤ pos 1)) ≡ u -ℤ pos 1
  noisy_one_is = ap (λ x. to_z w64 (of_z w64 (x -ℤ pos 1))) (to_z-of_z w64 u fu) ∙ to_z-of_z w64 _ one_fits

  most_is : to_z w64 (of_z w64 (to_z w64 (of_z w64 u) -ℤ pos 1)) -ℤ to_z w64 (of_z w64 l) ≡ u -ℤ pos 1 -ℤ l
  most_is = ap (λ x. x -ℤ to_z w64 (of_z w64 l)) noisy_one_is ∙ ap (λ x. u -ℤ pos 1 -ℤ x) (to_z-of_z w64 l fl)

  noisy_most_is : noisy_most ≡ u -ℤ pos 1 -ℤ l
  noisy_most_is = ap (λ x. to_z w64 (of_z w64 x)) most_is ∙ to_z-of_z w64 _ most_fits

  quotient_is : to_z w64 (of_z w64 (int_div noisy_most (to_z w64 (of_z w64 s)))) ≡ int_div (u -ℤ pos 1 -ℤ l) s
  quotient_is = ap (λ x. to_z w64 (of_z w64 (int_div x (to_z w64 (of_z w64 s))))) noisy_most_is ∙ ap (λ x. to_z w64 (of_z w64 (int_div (u -ℤ pos 1 -ℤ l) x))) (to_z-of_z w64 s fs) ∙ to_z-of_z w64 _ (quot_fits w64 _ s most_fits p)

  product_is : to_z w64 (of_z w64 (int_div noisy_most (to_z w64 (of_z w64 s)))) *ℤ to_z w64 (of_z w64 s) ≡ int_div (u -ℤ pos 1 -ℤ l) s *ℤ s
  product_is = ap (λ x. x *ℤ to_z w64 (of_z w64 s)) quotient_is ∙ ap (λ x. int_div (u -ℤ pos 1 -ℤ l) s *ℤ x) (to_z-of_z w64 s fs)

  sum_is : to_z w64 (of_z w64 l) +ℤ to_z w64 (of_z w64 (to_z w64 (of_z w64 (int_div noisy_most (to_z w64 (of_z w64 s)))) *ℤ to_z w64 (of_z w64 s))) ≡ l +ℤ int_div (u -ℤ pos 1 -ℤ l) s *ℤ s
  sum_is = ap (λ x. x +ℤ to_z w64 (of_z w64 (to_z w64 (of_z w64 (int_div noisy_most (to_z w64 (of_z w64 s)))) *ℤ to_z w64 (of_z w64 s)))) (to_z-of_z w64 l fl) ∙ ap (λ x. l +ℤ to_z w64 (of_z w64 x)) product_is ∙ ap (λ x. l +ℤ x) (to_z-of_z w64 _ parts_fit.0)

  fits_by : (x y : ℤ) → x ≡ y → FitsSigned w64 y → FitsSigned w64 x
  fits_by x y e f = subst (λ z. FitsSigned w64 z) (sym e) f

  order : u -ℤ pos 1 -ℤ l ≡ u -ℤ l -ℤ pos 1
  order = omega (arith, ints)

  result_is : to_z w64 (of_z w64 (to_z w64 (of_z w64 l) +ℤ to_z w64 (of_z w64 (to_z w64 (of_z w64 (int_div noisy_most (to_z w64 (of_z w64 s)))) *ℤ to_z w64 (of_z w64 s))))) ≡ l +ℤ int_div (u -ℤ l -ℤ pos 1) s *ℤ s
  result_is = ap (λ x. to_z w64 (of_z w64 x)) sum_is ∙ to_z-of_z w64 _ parts_fit.1 ∙ ap (λ x. l +ℤ int_div x s *ℤ s) order

pub overflow_sub-most : goal.overflow_sub-most
overflow_sub-most c = let f = one_fits c.args.lower c.args.upper c.args.step c.ranges.lower c.ranges.upper c.ranges.step c.requires.lower c.requires.upper c.requires.some c.requires.step in omega (arith, ints)

pub overflow_sub-most-2 : goal.overflow_sub-most-2
overflow_sub-most-2 c = subst (λ z. FitsSigned w64 z) (sym (most_is c.args.lower c.args.upper c.args.step c.ranges.lower c.ranges.upper c.ranges.step c.requires.lower c.requires.upper c.requires.some c.requires.step)) (most_fits c.args.lower c.args.upper c.args.step c.ranges.lower c.ranges.upper c.ranges.step c.requires.lower c.requires.upper c.requires.some c.requires.step)

pub overflow_mul-result : goal.overflow_mul-result
overflow_mul-result c = subst (λ z. FitsSigned w64 z) (sym (product_is c.args.lower c.args.upper c.args.step c.ranges.lower c.ranges.upper c.ranges.step c.requires.lower c.requires.upper c.requires.some c.requires.step)) (parts_fit c.args.lower c.args.upper c.args.step c.ranges.lower c.ranges.upper c.ranges.step c.requires.lower c.requires.upper c.requires.some c.requires.step).0

pub overflow_add-result : goal.overflow_add-result
overflow_add-result c = subst (λ z. FitsSigned w64 z) (sym (sum_is c.args.lower c.args.upper c.args.step c.ranges.lower c.ranges.upper c.ranges.step c.requires.lower c.requires.upper c.requires.some c.requires.step)) (parts_fit c.args.lower c.args.upper c.args.step c.ranges.lower c.ranges.upper c.ranges.step c.requires.lower c.requires.upper c.requires.some c.requires.step).1

pub returns : goal.returns
returns c = result_is c.args.lower c.args.upper c.args.step c.ranges.lower c.ranges.upper c.ranges.step c.requires.lower c.requires.upper c.requires.some c.requires.step
