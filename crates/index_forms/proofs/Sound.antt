-- A bound by elimination is an upper bound.
use Rattle.std.proofs.Common.{◌≡◌, ℕ, ◌<◌, ◌≤◌, ◌==◌, ℤ, pos, negsuc, neg_ℤ, ◌+ℤ◌, ◌-ℤ◌, ◌*ℤ◌, ◌≤ℤ◌, ◌<ℤ◌, int_lt, int_div, nat_le, Bool, true, false, List, [], ◌∷◌, length, Option, Some, None, refl, sym, ◌∙◌, subst, arith, suc, zero, ◌⊎◌, inl, inr}
use Rattle.std.specs.Prelude.{if◌then◌else◌}
use Rattle.std.specs.List.{fold}
use Rattle.std.proofs.lemmas.Int.{ints, clamps}
use Rattle.std.proofs.lemmas.Bool.Decides.{nat_tests}
use Rattle.index_forms.specs.declared.form.LinForm.{LinForm}
use Rattle.index_forms.specs.declared.form.Fact.{Fact}
use Rattle.index_forms.specs.declared.form.Fact.TheVariants.{Loop, Least, Extent}
use Rattle.index_forms.specs.Forms.{terms_value, value_of, form, number, plus}
use Rattle.index_forms.specs.Limit.{within}
use Rattle.index_forms.specs.Facts.{AreFacts, IsFact}
use Rattle.index_forms.specs.Bounds.{choices, loop_end, join, combined, ended, bounds_of, bound, bound_step, fact_at, upper_of, lower_of, negated, negated_bound, forms_met}
use Rattle.index_forms.specs.Agreement.{AtMost, OneOf, Holds, Agrees, IsAbove, IsBelow}
use Rattle.index_forms.proofs.Ints.{mul_le_pos, mul_le_neg, last_below}
use Rattle.index_forms.proofs.Limits.{checked_some}
use Rattle.index_forms.proofs.Values.{value-scaled}
use Rattle.index_forms.proofs.Sums.{value-plus}

no_bound : (b : ℤ) → ¬ (◌≡◌ {A = Option ℤ} None (Some b))
no_bound b e = cc

same_bound : (a b : ℤ) → Some a ≡ Some b → a ≡ b
same_bound a b e = cc

-- where one is enough, the bound is that of one of the forms; where all are needed, each has one that it reaches
abbrev Reached : (LinForm → Option ℤ) → ℤ → List (ℕ × ℤ) → ℤ → List LinForm → ℤ → Type 0
Reached rest c ts a [] b = ⊥
Reached rest c ts a (g ∷ gs) b = (rest (plus (form c ts) a g) ≡ Some b) ⊎ Reached rest c ts a gs b

abbrev Covered : (LinForm → Option ℤ) → ℤ → List (ℕ × ℤ) → ℤ → List LinForm → ℤ → Type 0
Covered rest c ts a [] b = Unit {0}
Covered rest c ts a (g ∷ gs) b = ((d : ℤ) × (rest (plus (form c ts) a g) ≡ Some d) × (d ≤ℤ b)) × Covered rest c ts a gs b

module _ (rest : LinForm → Option ℤ) (c : ℤ) (ts : List (ℕ × ℤ)) (a : ℤ) where
  reached_from : (x : Option ℤ) (gs : List LinForm) (b : ℤ) → fold (join true) x (bounds_of rest c ts a gs) ≡ Some b →
      (x ≡ Some b) ⊎ Reached rest c ts a gs b
  reached_from x [] b e = inl e
  reached_from x (g ∷ gs) b e =
      elim (reached_from (join true x (rest (plus (form c ts) a g))) gs b e) [
        | inl h ↦ of_join x (rest (plus (form c ts) a g)) refl h
        | inr h ↦ inr (inr h)
      ] where
        of_join : (x y : Option ℤ) → rest (plus (form c ts) a g) ≡ y → join true x y ≡ Some b → (x ≡ Some b) ⊎ ((rest (plus (form c ts) a g) ≡ Some b) ⊎ Reached rest c ts a gs b)
        of_join None y p h = inr (inl (p ∙ h))
        of_join (Some m) None p h = inl h
        of_join (Some m) (Some n) p h = of_min (int_lt n m) refl where
          of_min : (t : Bool) → int_lt n m ≡ t → (◌≡◌ {A = Option ℤ} (Some m) (Some b)) ⊎ ((rest (plus (form c ts) a g) ≡ Some b) ⊎ Reached rest c ts a gs b)
          of_min true q = inr (inl (p ∙ subst (λ t. Some (if t then n else m) ≡ Some b) q h))
          of_min false q = inl (subst (λ t. Some (if t then n else m) ≡ Some b) q h)

  reached : (gs : List LinForm) (b : ℤ) → combined true (bounds_of rest c ts a gs) ≡ Some b → Reached rest c ts a gs b
  reached [] b e = absurd (no_bound b e)
  reached (g ∷ gs) b e = elim (reached_from (rest (plus (form c ts) a g)) gs b e) [ inl h ↦ inl h | inr h ↦ inr h ]

  covered_from : (x : Option ℤ) (gs : List LinForm) (b : ℤ) → fold (join false) x (bounds_of rest c ts a gs) ≡ Some b →
      ((d : ℤ) × (x ≡ Some d) × (d ≤ℤ b)) × Covered rest c ts a gs b
  covered_from x [] b e = ((b, e, omega (arith, ints)), tt)
  covered_from x (g ∷ gs) b e =
      let r = covered_from (join false x (rest (plus (form c ts) a g))) gs b e in
      of_join x (rest (plus (form c ts) a g)) refl r.0.0 r.0.1 r.0.2 r.1 where
        of_join : (x y : Option ℤ) → rest (plus (form c ts) a g) ≡ y → (d : ℤ) → join false x y ≡ Some d → d ≤ℤ b → Covered rest c ts a gs b →
            ((d : ℤ) × (x ≡ Some d) × (d ≤ℤ b)) × Covered rest c ts a (g ∷ gs) b
        of_join None y p d h k r = absurd (no_bound d h)
        of_join (Some m) None p d h k r = absurd (no_bound d h)
        of_join (Some m) (Some n) p d h k r = let q = same_bound _ _ h in ((m, refl, omega (arith, ints, clamps)), ((n, p, omega (arith, ints, clamps)), r))

  covered : (gs : List LinForm) (b : ℤ) → combined false (bounds_of rest c ts a gs) ≡ Some b → Covered rest c ts a gs b
  covered [] b e = absurd (no_bound b e)
  covered (g ∷ gs) b e = covered_from (rest (plus (form c ts) a g)) gs b e

module _ (env : ℕ → ℤ) where
  -- the value of an atom is at most each choice above, and at least one choice below
  abbrev AtLeastOne : ℤ → List LinForm → Type 0
  AtLeastOne v [] = ⊥
  AtLeastOne v (g ∷ gs) = (value_of g env ≤ℤ v) ⊎ AtLeastOne v gs

  end_above : (lc : ℤ) (ls : List (ℕ × ℤ)) (uc : ℤ) (us : List (ℕ × ℤ)) (s v : ℤ) (j : ℕ) → v ≡ value_of (form lc ls) env +ℤ pos j *ℤ s → v <ℤ value_of (form uc us) env → pos 0 <ℤ s →
      (t : Bool) → int_lt lc uc ≡ t → v ≤ℤ value_of (loop_end (form lc ls) (form uc us) s) env
  end_above lc [] uc [] s v j p q z true r =
      subst (λ t. v ≤ℤ value_of (form (if t then lc +ℤ int_div (uc -ℤ lc -ℤ pos 1) s *ℤ s else uc -ℤ pos 1) []) env) (sym r)
      (zero_more _ (last_below lc uc s v j z (omega (arith, ints)) (omega (arith, ints)))) where
        zero_more : (w : ℤ) → v ≤ℤ w → v ≤ℤ (w +ℤ pos 0)
        zero_more w h = omega (arith, ints)
  end_above lc [] uc [] s v j p q z false r =
      subst (λ t. v ≤ℤ value_of (form (if t then lc +ℤ int_div (uc -ℤ lc -ℤ pos 1) s *ℤ s else uc -ℤ pos 1) []) env) (sym r) (omega (arith, ints))
  end_above lc [] uc (u ∷ us) s v j p q z t r = one_less v uc _ q where
    one_less : (v u t : ℤ) → v <ℤ (u +ℤ t) → v ≤ℤ ((u -ℤ pos 1) +ℤ t)
    one_less v u t h = omega (arith, ints)
  end_above lc (l ∷ ls) uc us s v j p q z t r = one_less v uc _ q where
    one_less : (v u t : ℤ) → v <ℤ (u +ℤ t) → v ≤ℤ ((u -ℤ pos 1) +ℤ t)
    one_less v u t h = omega (arith, ints)

  at_most : (n : ℕ) (fact : Fact) (v a : ℤ) → IsFact n fact → Holds fact v env → int_lt (pos 0) a ≡ true → AtMost v (choices fact a) env
  at_most n (Loop lower upper step) v a w h e =
      subst (λ t. AtMost v ((if t then loop_end lower upper step else lower) ∷ []) env) (sym e) (end_above lower.constant lower.terms upper.constant upper.terms step v h.0.0 h.0.1 h.1 w.2 (int_lt lower.constant upper.constant) refl, tt)
  at_most n (Least terms) v a w h e = h.0
  at_most n (Extent most) v a w h e = subst (λ t. AtMost v (number (if t then most else pos 0) ∷ []) env) (sym e) (let k = h.1 in omega (arith, ints), tt)

  some_equal : (v : ℤ) (gs : List LinForm) → OneOf v gs env → AtLeastOne v gs
  some_equal v [] h = h
  some_equal v (g ∷ gs) h = elim h [ inl e ↦ inl (let k : v ≡ value_of g env = e in omega (arith, ints)) | inr k ↦ inr (some_equal v gs k) ]

  at_least : (n : ℕ) (fact : Fact) (v a : ℤ) → IsFact n fact → Holds fact v env → int_lt (pos 0) a ≡ false → AtLeastOne v (choices fact a)
  at_least n (Loop lower upper step) v a w h e = subst (λ t. AtLeastOne v ((if t then loop_end lower upper step else lower) ∷ [])) (sym e) (inl (first_below (value_of lower env) step v h.0.0 h.0.1 w.2)) where
    first_below : (l s v : ℤ) (j : ℕ) → v ≡ l +ℤ pos j *ℤ s → pos 0 <ℤ s → l ≤ℤ v
    first_below l (pos s) v j e p = omega (arith, ints)
    first_below l (negsuc s) v j e p = absurd (omega (arith, ints))
  at_least n (Least terms) v a w h e = some_equal v terms h.1
  at_least n (Extent most) v a w h e = subst (λ t. AtLeastOne v (number (if t then most else pos 0) ∷ [])) (sym e) (inl (let k = h.0 in omega (arith, ints)))

  module _ (rest : LinForm → Option ℤ) (ih : (f : LinForm) (b : ℤ) → rest f ≡ Some b → value_of f env ≤ℤ b) (c : ℤ) (ts : List (ℕ × ℤ)) (a v : ℤ) where
    abbrev Below : ℤ → Type 0
    Below b = (c +ℤ (a *ℤ v +ℤ terms_value ts env)) ≤ℤ b

    through : (g : LinForm) (d b : ℤ) → (a *ℤ v) ≤ℤ (a *ℤ value_of g env) → rest (plus (form c ts) a g) ≡ Some d → d ≤ℤ b → Below b
    through g d b h e k = join_up c (terms_value ts env) (a *ℤ v) (a *ℤ value_of g env) _ d b (value-plus env (form c ts) a g) (ih _ _ e) h k where
      join_up : (c t x y p d b : ℤ) → p ≡ (c +ℤ t) +ℤ y → p ≤ℤ d → x ≤ℤ y → d ≤ℤ b → (c +ℤ (x +ℤ t)) ≤ℤ b
      join_up c t x y p d b e f g h = omega (arith, ints)

    from_reached : (gs : List LinForm) (b : ℤ) → pos 0 ≤ℤ a → AtMost v gs env → Reached rest c ts a gs b → Below b
    from_reached [] b p h r = absurd r
    from_reached (g ∷ gs) b p h r = elim r [
      | inl e ↦ through g b b (mul_le_pos a v (value_of g env) p h.0) e (omega (arith, ints))
      | inr q ↦ from_reached gs b p h.1 q
    ]

    from_covered : (gs : List LinForm) (b : ℤ) → a ≤ℤ pos 0 → AtLeastOne v gs → Covered rest c ts a gs b → Below b
    from_covered [] b p h r = absurd h
    from_covered (g ∷ gs) b p h r = elim h [
      | inl k ↦ through g r.0.0 b (mul_le_neg a (value_of g env) v p k) r.0.1 r.0.2
      | inr q ↦ from_covered gs b p q r.1
    ]

    by_sign : (n : ℕ) (fact : Fact) (b : ℤ) → IsFact n fact → Holds fact v env → (t : Bool) → int_lt (pos 0) a ≡ t →
        combined t (bounds_of rest c ts a (choices fact a)) ≡ Some b → Below b
    by_sign n fact b w h true e r = from_reached (choices fact a) b (omega (arith, ints)) (at_most n fact v a w h e) (reached rest c ts a (choices fact a) b r)
    by_sign n fact b w h false e r = from_covered (choices fact a) b (omega (arith, ints)) (at_least n fact v a w h e) (covered rest c ts a (choices fact a) b r)

  if_some : (t : Bool) (x : Option ℤ) (b : ℤ) → (if t then x else None) ≡ Some b → x ≡ Some b
  if_some true x b e = e
  if_some false x b e = absurd (no_bound b e)

  ended_below : (c : ℤ) (ts : List (ℕ × ℤ)) (b : ℤ) → ended c ts ≡ Some b → (c +ℤ terms_value ts env) ≤ℤ b
  ended_below c [] b e = let q = same_bound c b e in omega (arith, ints)
  ended_below c (t ∷ ts) b e = absurd (no_bound b e)

  module _ (facts : List Fact) (known : AreFacts facts) (agree : Agrees facts env) where
    at_atom : (k : ℕ) → k < length facts → ((f : LinForm) (b : ℤ) → bound facts k f ≡ Some b → value_of f env ≤ℤ b) →
        (c : ℤ) (t : ℕ × ℤ) (ts : List (ℕ × ℤ)) (b : ℤ) (x : Bool) → (t.0 == k) ≡ x →
        (if x then combined (int_lt (pos 0) t.1) (bounds_of (bound facts k) c ts t.1 (choices (fact_at facts k) t.1)) else bound facts k (form c (t ∷ ts))) ≡ Some b →
        value_of (form c (t ∷ ts)) env ≤ℤ b
    at_atom k le ih c t ts b false p r = ih (form c (t ∷ ts)) b r
    at_atom k le ih c t ts b true p r =
        let q : t.0 ≡ k = grind (arith, nat_tests) in
        subst (λ (j : ℕ). (c +ℤ (t.1 *ℤ env j +ℤ terms_value ts env)) ≤ℤ b) (sym q)
        (by_sign (bound facts k) ih c ts t.1 (env k) k (fact_at facts k) b (known k le) (agree k le) (int_lt (pos 0) t.1) refl r)

    one_step : (k : ℕ) → k < length facts → ((f : LinForm) (b : ℤ) → bound facts k f ≡ Some b → value_of f env ≤ℤ b) →
        (c : ℤ) (ts : List (ℕ × ℤ)) (b : ℤ) → bound_step (bound facts k) (fact_at facts k) k c ts ≡ Some b → value_of (form c ts) env ≤ℤ b
    one_step k le ih c [] b r = ih (form c []) b r
    one_step k le ih c (t ∷ ts) b r = at_atom k le ih c t ts b (t.0 == k) refl r

    pub sound : (n : ℕ) → n ≤ length facts → (f : LinForm) (b : ℤ) → bound facts n f ≡ Some b → value_of f env ≤ℤ b
    unfolding bound
    sound zero le f b e = ended_below f.constant f.terms b (if_some (within f) _ b e)
    sound (suc k) le f b e = one_step k (omega arith) (sound k (omega arith)) f.constant f.terms b (if_some (within f) _ b e)

    pub upper_sound : (f : LinForm) (b : ℤ) → upper_of facts f ≡ Some b → value_of f env ≤ℤ b
    upper_sound f b e = sound (length facts) (omega arith) f b (if_some (nat_le (forms_met facts (length facts) f) 4096) _ b e)

    pub lower_sound : (f : LinForm) (b : ℤ) → lower_of facts f ≡ Some b → b ≤ℤ value_of f env
    lower_sound f b e = of_negated (upper_of facts (negated f)) refl e where
      turned : (c t m d b : ℤ) → m ≡ negsuc 0 *ℤ t → (neg_ℤ c +ℤ m) ≤ℤ d → b ≡ pos 0 -ℤ d → b ≤ℤ (c +ℤ t)
      turned c t m d b e h k = omega (arith, ints)

      of_negated : (x : Option ℤ) → upper_of facts (negated f) ≡ x → negated_bound x ≡ Some b → b ≤ℤ value_of f env
      of_negated None p q = absurd (no_bound b q)
      of_negated (Some d) p q = turned f.constant (terms_value f.terms env) _ d b (value-scaled env (negsuc 0) f.terms) (upper_sound (negated f) d p) (checked_some (pos 0 -ℤ d) b (sym q)).0

pub is_above : (facts : List Fact) → AreFacts facts → (f : LinForm) (x : Option ℤ) → x ≡ upper_of facts f → IsAbove facts f x
is_above facts known f None e = tt
is_above facts known f (Some b) e = λ env agree. upper_sound env facts known agree f b (sym e)

pub is_below : (facts : List Fact) → AreFacts facts → (f : LinForm) (x : Option ℤ) → x ≡ lower_of facts f → IsBelow facts f x
is_below facts known f None e = tt
is_below facts known f (Some b) e = λ env agree. lower_sound env facts known agree f b (sym e)

pub is_above_bound : (facts : List Fact) → AreFacts facts → (f : LinForm) (x : Option ℤ) → x ≡ bound facts (length facts) f → IsAbove facts f x
is_above_bound facts known f None e = tt
is_above_bound facts known f (Some b) e = λ env agree. sound env facts known agree (length facts) (omega arith) f b (sym e)
