-- Facts and their normal forms.
use Rattle.std.proofs.Common.{◌≡◌, ℕ, ◌+◌, ◌<◌, ℤ, pos, ◌+ℤ◌, ◌*ℤ◌, ◌≤ℤ◌, ◌<ℤ◌, Bool, true, false, List, [], ◌∷◌, map, length, refl, ap, sym, ◌∙◌, subst, arith, suc, zero, IsTrue, inl, inr, Option, Some, None}
use Rattle.std.specs.Prelude.{if◌then◌else◌, nat_le}
use Rattle.index_forms.specs.declared.form.LinForm.{LinForm}
use Rattle.index_forms.specs.declared.form.Fact.{Fact}
use Rattle.index_forms.specs.declared.form.Fact.TheVariants.{Loop, Least, Extent}
use Rattle.index_forms.specs.Forms.{normal}
use Rattle.index_forms.specs.Limit.{within}
use Rattle.index_forms.specs.Facts.{IsFact, AreFacts, normal_fact, normal_facts, FactsFrom, AllDiffer, Distinct, AreKnown, AreNormal}
use Rattle.index_forms.specs.Bounds.{fact_at, upper_of, lower_of, negated, negated_bound, forms_met, bound}
use Rattle.index_forms.specs.Agreement.{AtMost, OneOf, Holds, Agrees, IsAbove, IsBelow}
use Rattle.index_forms.proofs.Collected.{value_normal, same_normal, coefficient_normal}
use Rattle.index_forms.proofs.Walks.{bound_out}
use Rattle.index_forms.proofs.Negative.{within_back}

-- a normal form is its own
pub normal_again : (f : LinForm) → normal (normal f) ≡ normal f
normal_again f = same_normal (normal f) f refl (coefficient_normal f.terms)

all_again : (fs : List LinForm) → map normal (map normal fs) ≡ map normal fs
all_again [] = refl
all_again (f ∷ fs) = ap (λ (g : LinForm). g ∷ map normal (map normal fs)) (normal_again f) ∙ ap (λ (gs : List LinForm). normal f ∷ gs) (all_again fs)

fact_again : (f : Fact) → normal_fact (normal_fact f) ≡ normal_fact f
fact_again (Loop lower upper step) = ap (λ (g : LinForm). Loop g (normal (normal upper)) step) (normal_again lower) ∙ ap (λ (g : LinForm). Loop (normal lower) g step) (normal_again upper)
fact_again (Least terms) = ap (λ (gs : List LinForm). Least gs) (all_again terms)
fact_again (Extent most) = refl

pub facts_again : (fs : List Fact) → normal_facts (normal_facts fs) ≡ normal_facts fs
facts_again [] = refl
facts_again (f ∷ fs) = ap (λ (g : Fact). g ∷ normal_facts (normal_facts fs)) (fact_again f) ∙ ap (λ (gs : List Fact). normal_fact f ∷ gs) (facts_again fs)

pub are_normal : (fs all : List Fact) → all ≡ normal_facts fs → AreKnown fs → AreNormal all
are_normal fs all e h = subst AreNormal (sym e) (subst (λ (gs : List Fact). FactsFrom 0 gs × Distinct gs) (sym (facts_again fs)) h, facts_again fs)

facts_at : (n : ℕ) (fs : List Fact) → FactsFrom n fs → (k : ℕ) → k < length fs → IsFact (n + k) (fact_at fs k)
facts_at n [] h k p = absurd (omega arith)
facts_at n (f ∷ fs) h zero p = subst (λ (m : ℕ). IsFact m f) (omega arith) h.0
facts_at n (f ∷ fs) h (suc k) p = subst (λ (m : ℕ). IsFact m (fact_at fs k)) (omega arith) (facts_at (suc n) fs h.1 k (omega arith))

from_first : (fs : List Fact) → FactsFrom 0 fs → AreFacts fs
from_first fs h k p = subst (λ (m : ℕ). IsFact m (fact_at fs k)) (omega arith) (facts_at 0 fs h k p)

pub are_facts : (fs : List Fact) → AreNormal fs → AreFacts fs
are_facts fs h = from_first fs (subst (FactsFrom 0) h.1 h.0.0)

pub same_length : (fs : List Fact) → length (normal_facts fs) ≡ length fs
same_length [] = refl
same_length (f ∷ fs) = ap suc (same_length fs)

pub fact_of : (fs : List Fact) (k : ℕ) → k < length fs → fact_at (normal_facts fs) k ≡ normal_fact (fact_at fs k)
fact_of [] k h = absurd (omega arith)
fact_of (f ∷ fs) zero h = refl
fact_of (f ∷ fs) (suc k) h = fact_of fs k (omega arith)

module _ (env : ℕ → ℤ) where
  at_most : (v : ℤ) (gs : List LinForm) → AtMost v gs env → AtMost v (map normal gs) env
  at_most v [] h = tt
  at_most v (g ∷ gs) h = (subst (λ (z : ℤ). v ≤ℤ z) (sym (value_normal env g)) h.0, at_most v gs h.1)

  one_of : (v : ℤ) (gs : List LinForm) → OneOf v gs env → OneOf v (map normal gs) env
  one_of v [] h = h
  one_of v (g ∷ gs) h = elim h [ inl e ↦ inl (e ∙ sym (value_normal env g)) | inr k ↦ inr (one_of v gs k) ]

  holds : (f : Fact) (v : ℤ) → Holds f v env → Holds (normal_fact f) v env
  holds (Loop lower upper step) v h = ((h.0.0, h.0.1 ∙ ap (λ (z : ℤ). z +ℤ pos h.0.0 *ℤ step) (sym (value_normal env lower))), subst (λ (z : ℤ). v <ℤ z) (sym (value_normal env upper)) h.1)
  holds (Least terms) v h = (at_most v terms h.0, one_of v terms h.1)
  holds (Extent most) v h = h

  pub agrees : (fs : List Fact) → Agrees fs env → Agrees (normal_facts fs) env
  agrees fs h k p = let l = same_length fs in subst (λ (f : Fact). Holds f (env k) env) (sym (fact_of fs k (omega arith))) (holds (fact_at fs k) (env k) (h k (omega arith)))

pub above : (fs : List Fact) (f : LinForm) (x : Option ℤ) → IsAbove fs (normal f) x → IsAbove fs f x
above fs f None h = tt
above fs f (Some b) h = λ env a. subst (λ (z : ℤ). z ≤ℤ b) (value_normal env f) (h env a)

pub below : (fs : List Fact) (f : LinForm) (x : Option ℤ) → IsBelow fs (normal f) x → IsBelow fs f x
below fs f None h = tt
below fs f (Some b) h = λ env a. subst (λ (z : ℤ). b ≤ℤ z) (value_normal env f) (h env a)

-- no bound where a number of the form is past the limit
pub upper_none : (fs : List Fact) (f : LinForm) → within f ≡ false → None ≡ upper_of fs f
upper_none fs f h = of_test (nat_le (forms_met fs (length fs) f) 4096) (bound_out fs (length fs) f h) where
  of_test : (t : Bool) → bound fs (length fs) f ≡ None → None ≡ (if t then bound fs (length fs) f else None)
  of_test true e = sym e
  of_test false e = refl

pub lower_none : (fs : List Fact) (f : LinForm) → within f ≡ false → None ≡ lower_of fs f
lower_none fs f h = ap negated_bound (upper_none fs (negated f) (of_test (within (negated f)) refl)) where
  of_test : (t : Bool) → within (negated f) ≡ t → t ≡ false
  of_test false e = refl
  of_test true e = absurd (let k : IsTrue (within f) = within_back f e in let m : true ≡ false = sym k ∙ h in cc)

-- what is no minimum differs from each fact
pub loop_differs : (f : Fact) (lower upper : LinForm) (step : ℤ) (gs : List Fact) → f ≡ Loop lower upper step → AllDiffer f gs
loop_differs f lower upper step gs e = subst (λ (x : Fact). AllDiffer x gs) (sym e) (each gs) where
  each : (gs : List Fact) → AllDiffer (Loop lower upper step) gs
  each [] = tt
  each (g ∷ gs) = (tt, each gs)

pub extent_differs : (f : Fact) (most : ℤ) (gs : List Fact) → f ≡ Extent most → AllDiffer f gs
extent_differs f most gs e = subst (λ (x : Fact). AllDiffer x gs) (sym e) (each gs) where
  each : (gs : List Fact) → AllDiffer (Extent most) gs
  each [] = tt
  each (g ∷ gs) = (tt, each gs)
