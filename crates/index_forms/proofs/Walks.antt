-- What one step of the elimination does.
use Rattle.std.proofs.Common.{◌≡◌, ℕ, ◌+◌, ◌<◌, ◌≤◌, ◌==◌, ℤ, pos, negsuc, int_lt, Bool, true, false, List, [], ◌∷◌, length, get_or, refl, ap, sym, ◌∙◌, subst, arith, suc, zero, IsTrue, Option, Some, None, ◌⊎◌, inl, inr, Result, Ok, Err, IfOk, FitsSigned, w64, to_z, of_z}
use Rattle.std.proofs.lemmas.Int.{to_z-of_z}
use Rattle.std.specs.Prelude.{if◌then◌else◌}
use Rattle.std.proofs.lemmas.Bool.{cases_lt}
use Rattle.std.proofs.lemmas.Bool.Decides.{nat_tests}
use Rattle.index_forms.specs.declared.form.LinForm.{LinForm}
use Rattle.index_forms.specs.declared.form.Fact.{Fact}
use Rattle.index_forms.specs.declared.form.Fact.TheVariants.{Loop, Extent}
use Rattle.index_forms.specs.Forms.{form, keep, scaled, plus, Falls}
use Rattle.index_forms.specs.Limit.{within, AreForms, IsForm}
use Rattle.index_forms.specs.Bounds.{ended, bound, bound_step, forms_met, met_step, bounds_of, met_of, combined, choices, loop_end, fact_at}
use Rattle.index_forms.proofs.Limits.{Terms}

pub falls_more : (m n : ℕ) (ts : Terms) → m ≤ n → Falls m ts → Falls n ts
falls_more m n [] h f = f
falls_more m n (t ∷ ts) h f = (omega arith, f.1)

pub falls_keep : (n k : ℕ) (z : ℤ) (ts : Terms) → k < n → Falls k ts → Falls n (keep k z ts)
falls_keep n k (pos zero) ts h f = falls_more k n ts (omega arith) f
falls_keep n k (pos (suc z)) ts h f = (h, f)
falls_keep n k (negsuc z) ts h f = (h, f)

pub falls_scaled : (n : ℕ) (c : ℤ) (ts : Terms) → Falls n ts → Falls n (scaled c ts)
falls_scaled n c [] f = f
falls_scaled n c (t ∷ ts) f = (f.0, falls_scaled t.0 c ts f.1)

module _ (facts : List Fact) where
  bound_open : (k : ℕ) (f : LinForm) → IsTrue (within f) → bound facts (suc k) f ≡ bound_step (bound facts k) (fact_at facts k) k f.constant f.terms
  unfolding bound
  bound_open k f h = ap (λ (b : Bool). if b then bound_step (bound facts k) (fact_at facts k) k f.constant f.terms else None) h

  met_open : (k : ℕ) (f : LinForm) → IsTrue (within f) → forms_met facts (suc k) f ≡ met_step (forms_met facts k) (fact_at facts k) k f.constant f.terms
  unfolding forms_met
  met_open k f h = ap (λ (b : Bool). if b then met_step (forms_met facts k) (fact_at facts k) k f.constant f.terms else 1) h

  pub bound_none : (n : ℕ) (c : ℤ) → IsTrue (within (form c [])) → bound facts n (form c []) ≡ Some c
  unfolding bound
  bound_none zero c h = ap (λ (b : Bool). if b then Some c else None) h
  bound_none (suc n) c h = bound_open n (form c []) h ∙ bound_none n c h

  pub met_none : (n : ℕ) (c : ℤ) → IsTrue (within (form c [])) → forms_met facts n (form c []) ≡ 1
  unfolding forms_met
  met_none zero c h = refl
  met_none (suc n) c h = met_open n (form c []) h ∙ met_none n c h

  -- a form past the limit
  pub bound_out : (n : ℕ) (f : LinForm) → within f ≡ false → bound facts n f ≡ None
  unfolding bound
  bound_out zero f h = ap (λ (b : Bool). if b then ended f.constant f.terms else None) h
  bound_out (suc n) f h = ap (λ (b : Bool). if b then bound_step (bound facts n) (fact_at facts n) n f.constant f.terms else None) h

  pub met_out : (n : ℕ) (f : LinForm) → within f ≡ false → forms_met facts n f ≡ 1
  unfolding forms_met
  met_out zero f h = refl
  met_out (suc n) f h = ap (λ (b : Bool). if b then met_step (forms_met facts n) (fact_at facts n) n f.constant f.terms else 1) h

  module _ (c : ℤ) (t : ℕ × ℤ) (ts : Terms) (h : IsTrue (within (form c (t ∷ ts)))) where
    abbrev Answer : Option ℤ
    Answer = combined (int_lt (pos 0) t.1) (bounds_of (bound facts t.0) c ts t.1 (choices (fact_at facts t.0) t.1))

    abbrev Met : ℕ
    Met = 1 + met_of (forms_met facts t.0) c ts t.1 (choices (fact_at facts t.0) t.1)

    bound_here : (n : ℕ) → n ≡ t.0 → bound_step (bound facts n) (fact_at facts n) n c (t ∷ ts) ≡ Answer
    bound_here n e =
        let q : (t.0 == t.0) ≡ true = grind (arith, nat_tests) in
        subst (λ (m : ℕ). bound_step (bound facts m) (fact_at facts m) m c (t ∷ ts) ≡ Answer) (sym e) (ap (λ (b : Bool). if b then Answer else bound facts t.0 (form c (t ∷ ts))) q)

    bound_later : (n : ℕ) → t.0 < n → bound_step (bound facts n) (fact_at facts n) n c (t ∷ ts) ≡ bound facts n (form c (t ∷ ts))
    bound_later n p =
        let q : (t.0 == n) ≡ false = grind (arith, nat_tests) in
        ap (λ (b : Bool). if b then combined (int_lt (pos 0) t.1) (bounds_of (bound facts n) c ts t.1 (choices (fact_at facts n) t.1)) else bound facts n (form c (t ∷ ts))) q

    met_here : (n : ℕ) → n ≡ t.0 → met_step (forms_met facts n) (fact_at facts n) n c (t ∷ ts) ≡ Met
    met_here n e =
        let q : (t.0 == t.0) ≡ true = grind (arith, nat_tests) in
        subst (λ (m : ℕ). met_step (forms_met facts m) (fact_at facts m) m c (t ∷ ts) ≡ Met) (sym e) (ap (λ (b : Bool). if b then Met else forms_met facts t.0 (form c (t ∷ ts))) q)

    met_later : (n : ℕ) → t.0 < n → met_step (forms_met facts n) (fact_at facts n) n c (t ∷ ts) ≡ forms_met facts n (form c (t ∷ ts))
    met_later n p =
        let q : (t.0 == n) ≡ false = grind (arith, nat_tests) in
        ap (λ (b : Bool). if b then 1 + met_of (forms_met facts n) c ts t.1 (choices (fact_at facts n) t.1) else forms_met facts n (form c (t ∷ ts))) q

    pub both_at : (n : ℕ) → t.0 < n → (bound facts n (form c (t ∷ ts)) ≡ Answer) × (forms_met facts n (form c (t ∷ ts)) ≡ Met)
    both_at zero p = absurd (omega arith)
    both_at (suc n) p = of_case (cases_lt t.0 n) (both_at n) where
      of_case : (t.0 < n) ⊎ (n ≤ t.0) → (t.0 < n → (bound facts n (form c (t ∷ ts)) ≡ Answer) × (forms_met facts n (form c (t ∷ ts)) ≡ Met)) →
          (bound facts (suc n) (form c (t ∷ ts)) ≡ Answer) × (forms_met facts (suc n) (form c (t ∷ ts)) ≡ Met)
      of_case (inl q) ih = (bound_open n (form c (t ∷ ts)) h ∙ bound_later n q ∙ (ih q).0, met_open n (form c (t ∷ ts)) h ∙ met_later n q ∙ (ih q).1)
      of_case (inr q) ih = (bound_open n (form c (t ∷ ts)) h ∙ bound_here n (omega arith), met_open n (form c (t ∷ ts)) h ∙ met_here n (omega arith))

pub AreForms-at : (n i : ℕ) (fs : List LinForm) (d : LinForm) → AreForms n fs → i < length fs → IsForm n (get_or fs i d)
AreForms-at n i [] d h p = absurd (omega arith)
AreForms-at n zero (f ∷ fs) d h p = h.0
AreForms-at n (suc i) (f ∷ fs) d h p = AreForms-at n i fs d h.1 (omega arith)

pub ok_map : {A E : Type 0} (r : Result A E) (P Q : A → Type 0) → ((a : A) → P a → Q a) → IfOk r P → IfOk r Q
ok_map (Ok a) P Q f h = f a h
ok_map (Err e) P Q f h = tt

abbrev sum_or : LinForm → Option LinForm
sum_or p = if within p then Some p else None

pub some_is : (p q : LinForm) → Some q ≡ sum_or p → (q ≡ p) × IsTrue (within q)
some_is p q e = of_test (within p) refl e where
  of_test : (t : Bool) → within p ≡ t → Some q ≡ (if t then Some p else None) → (q ≡ p) × IsTrue (within q)
  of_test true h k = let g : q ≡ p = cc in (g, subst (λ (x : LinForm). IsTrue (within x)) (sym g) h)
  of_test false h k = absurd (let g : ◌≡◌ {A = Option LinForm} None (Some q) = sym k in cc)

pub none_is : (p : LinForm) → None ≡ sum_or p → within p ≡ false
none_is p e = of_test (within p) refl e where
  of_test : (t : Bool) → within p ≡ t → None ≡ (if t then Some p else None) → within p ≡ false
  of_test true h k = absurd (let g : ◌≡◌ {A = Option LinForm} None (Some p) = k in cc)
  of_test false h k = h

of_eq : (b : Bool) (x y : ℕ) → 0 < x → 0 < y → 0 < (if b then x else y)
of_eq true x y p q = p
of_eq false x y p q = q

pos_step : (facts : List Fact) (n : ℕ) → ((f : LinForm) → 0 < forms_met facts n f) → (c : ℤ) (ts : Terms) → 0 < met_step (forms_met facts n) (fact_at facts n) n c ts
pos_step facts n ih c [] = ih (form c [])
pos_step facts n ih c (t ∷ ts) = of_eq (t.0 == n) (1 + met_of (forms_met facts n) c ts t.1 (choices (fact_at facts n) t.1)) (forms_met facts n (form c (t ∷ ts))) (omega arith) (ih (form c (t ∷ ts)))

pub met_pos : (facts : List Fact) (n : ℕ) (f : LinForm) → 0 < forms_met facts n f
unfolding forms_met
met_pos facts zero f = omega arith
met_pos facts (suc n) f = of_test (within f) (pos_step facts n (met_pos facts n) f.constant f.terms) where
  of_test : (b : Bool) → 0 < met_step (forms_met facts n) (fact_at facts n) n f.constant f.terms → 0 < (if b then met_step (forms_met facts n) (fact_at facts n) n f.constant f.terms else 1)
  of_test true h = h
  of_test false h = omega arith

clean : (z : ℤ) → FitsSigned w64 z → to_z w64 (of_z w64 z) ≡ z
clean z f = to_z-of_z w64 z f

pub clean_sum : (c a n : ℤ) (ts gs : Terms) → FitsSigned w64 c → FitsSigned w64 a → FitsSigned w64 n →
    plus (form (to_z w64 (of_z w64 c)) ts) (to_z w64 (of_z w64 a)) (form (to_z w64 (of_z w64 n)) gs) ≡ plus (form c ts) a (form n gs)
clean_sum c a n ts gs f g h =
    ap (λ (x : ℤ). plus (form x ts) (to_z w64 (of_z w64 a)) (form (to_z w64 (of_z w64 n)) gs)) (clean c f)
    ∙ ap (λ (x : ℤ). plus (form c ts) x (form (to_z w64 (of_z w64 n)) gs)) (clean a g) ∙ ap (λ (x : ℤ). plus (form c ts) a (form x gs)) (clean n h)

pub get_same : {A : Type 0} (xs : List A) (k : ℕ) (d e : A) → k < length xs → get_or xs k d ≡ get_or xs k e
get_same [] k d e h = absurd (omega arith)
get_same (x ∷ xs) zero d e h = refl
get_same (x ∷ xs) (suc k) d e h = get_same xs k d e (omega arith)

pub fact_is : (facts : List Fact) (k : ℕ) (r : Fact) → k < length facts → r ≡ get_or facts k r → fact_at facts k ≡ r
fact_is facts k r h e = get_same facts k (Extent (pos 0)) r h ∙ sym e

pub choice_end : (fact : Fact) (l u : LinForm) (s a : ℤ) → fact ≡ Loop l u s → int_lt (pos 0) a ≡ true → choices fact a ≡ loop_end l u s ∷ []
choice_end fact l u s a e h = ap (λ (x : Fact). choices x a) e ∙ ap (λ (b : Bool). (if b then loop_end l u s else l) ∷ []) h

pub choice_start : (fact : Fact) (l u : LinForm) (s a : ℤ) → fact ≡ Loop l u s → int_lt (pos 0) a ≡ false → choices fact a ≡ l ∷ []
choice_start fact l u s a e h = ap (λ (x : Fact). choices x a) e ∙ ap (λ (b : Bool). (if b then loop_end l u s else l) ∷ []) h
