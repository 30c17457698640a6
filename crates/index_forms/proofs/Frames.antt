-- What one turn of the elimination does to its stack.
use Rattle.std.proofs.Common.{◌≡◌, ℕ, zero, suc, ◌+◌, ◌-◌, ◌<◌, ◌≤◌, ℤ, pos, int_lt, Bool, true, false, List, [], ◌∷◌, ◌++◌, length, take, drop, get_or, refl, ap, sym, ◌∙◌, subst, arith, IsTrue, add-one, Option, Some, None, w64, to_z, of_z, FitsSigned}
use Rattle.std.specs.Prelude.{if◌then◌else◌}
use Rattle.std.proofs.lemmas.List.{take_all, drop_all}
use Rattle.std.proofs.lemmas.Int.{to_z-of_z}
use Rattle.std.proofs.Math.Seq.{drop-cons}
use Rattle.index_forms.specs.declared.form.LinForm.{LinForm}
use Rattle.index_forms.specs.declared.form.Fact.{Fact}
use Rattle.index_forms.specs.declared.form.Fact.TheVariants.{Loop, Least, Extent}
use Rattle.index_forms.specs.declared.stack.Frame.{Frame}
use Rattle.index_forms.specs.declared.stack.Turn.TheVariants.{Form}
use Rattle.index_forms.specs.Forms.{form, number, plus, Falls}
use Rattle.index_forms.specs.Limit.{within, IsForm}
use Rattle.index_forms.specs.Facts.{IsFact, AreFacts}
use Rattle.index_forms.specs.Bounds.{bound, forms_met, bounds_of, met_of, choices, fact_at, loop_end, join}
use Rattle.index_forms.specs.Stack.{replaced, continued, settled_at, unmet_at, one_is_enough, gained, after, finished, unmet, all_unmet, turn_bound, turn_met, IsFrame, AreFrames, IsTurn}
use Rattle.index_forms.proofs.Limits.{Terms}
use Rattle.index_forms.proofs.Walks.{bound_none, bound_out, met_none, met_out, both_at, falls_more, clean_sum, AreForms-at, fact_is, met_pos}
use Rattle.index_forms.proofs.Sums.{falls_sum}

abbrev pub zero_at : ℕ × ℤ
zero_at = (0, pos 0)

abbrev pub sum_or : LinForm → Option LinForm
sum_or p = if within p then Some p else None

-- BOUNDS that don't depend on where the elimination begins
module _ (facts : List Fact) where
  same_shape : (m n : ℕ) (c : ℤ) (ts : Terms) → IsTrue (within (form c ts)) → Falls m ts → m ≤ n →
      (bound facts n (form c ts) ≡ bound facts m (form c ts)) × (forms_met facts n (form c ts) ≡ forms_met facts m (form c ts))
  same_shape m n c [] w f h = (bound_none facts n c w ∙ sym (bound_none facts m c w), met_none facts n c w ∙ sym (met_none facts m c w))
  same_shape m n c (t ∷ ts) w f h =
      let l : t.0 < m = f.0 in
      let a = both_at facts c t ts w n (omega arith) in
      let b = both_at facts c t ts w m l in
      (a.0 ∙ sym b.0, a.1 ∙ sym b.1)

  -- the turn that takes up a form
  pub turn_is : (m : ℕ) (p : LinForm) → Falls m p.terms → m ≤ length facts →
      (turn_bound facts (Form (sum_or p)) ≡ bound facts m p) × (turn_met facts (Form (sum_or p)) ≡ forms_met facts m p) × IsTurn facts (Form (sum_or p))
  turn_is m p f h = of_test (within p) refl where
    of_test : (b : Bool) → within p ≡ b →
        (turn_bound facts (Form (if b then Some p else None)) ≡ bound facts m p) × (turn_met facts (Form (if b then Some p else None)) ≡ forms_met facts m p) × IsTurn facts (Form (if b then Some p else None))
    of_test true q = let s = same_shape m (length facts) p.constant p.terms q f h in (s.0, s.1, (falls_more m (length facts) p.terms h f, q))
    of_test false q = (sym (bound_out facts m p q), sym (met_out facts m p q), tt)

choice_falls : (n : ℕ) (fact : Fact) (a : ℤ) (i : ℕ) → IsFact n fact → i < length (choices fact a) → Falls n (get_or (choices fact a) i (number (pos 0))).terms
choice_falls n (Loop lower upper step) a zero h p = of_test (int_lt (pos 0) a) where
  of_test : (b : Bool) → Falls n (if b then loop_end lower upper step else lower).terms
  of_test true = h.1.0
  of_test false = h.0.0
choice_falls n (Loop lower upper step) a (suc i) h p = absurd (omega arith)
choice_falls n (Least terms) a i h p = (AreForms-at n i terms (number (pos 0)) h.1 p).0
choice_falls n (Extent most) a zero h p = tt
choice_falls n (Extent most) a (suc i) h p = absurd (omega arith)

pub least_at : (n : ℕ) (fact : Fact) (terms : List LinForm) (a : ℤ) (i : ℕ) (d : LinForm) → fact ≡ Least terms → IsFact n fact → i < length (choices fact a) → IsForm n (get_or terms i d)
least_at n fact terms a i d e h p =
    let k : IsFact n (Least terms) = subst (IsFact n) e h in
    AreForms-at n i terms d k.1 (subst (λ (x : Fact). i < length (choices x a)) e p)

pub first_below : (n : ℕ) (ts : Terms) → Falls n ts → 0 < length ts → (get_or ts 0 zero_at).0 < n
first_below n [] f h = absurd (omega arith)
first_below n (t ∷ ts) f h = f.0

-- a form in the place of the first atom, as the code adds it
pub replaced_is : (c a n : ℤ) (ts fs gs : Terms) → ts ≡ fs → 0 < length ts → a ≡ (get_or ts 0 zero_at).1 → FitsSigned w64 c → FitsSigned w64 a → FitsSigned w64 n →
    sum_or (plus (form (to_z w64 (of_z w64 c)) (take (length ts - 1) (drop 1 ts))) (to_z w64 (of_z w64 a)) (form (to_z w64 (of_z w64 n)) gs)) ≡ replaced c fs (form n gs)
replaced_is c a n ts fs gs e h k f g l =
    ap sum_or (clean_sum c a n (take (length ts - 1) (drop 1 ts)) gs f g l) ∙ ap (λ (x : ℤ). sum_or (plus (form c (take (length ts - 1) (drop 1 ts))) x (form n gs))) k ∙ of_list ts h ∙ ap (λ (x : Terms). replaced c x (form n gs)) e where
      of_list : (ts : Terms) → 0 < length ts → sum_or (plus (form c (take (length ts - 1) (drop 1 ts))) (get_or ts 0 zero_at).1 (form n gs)) ≡ replaced c ts (form n gs)
      of_list [] h = absurd (omega arith)
      of_list (t ∷ ts) h = ap (λ (x : Terms). sum_or (plus (form c x) t.1 (form n gs))) (take_all (length (t ∷ ts) - 1) ts (omega arith))

module _ (facts : List Fact) (known : AreFacts facts) where
  abbrev pub Goes : ℤ → Terms → ℕ → Option (Option ℤ) → Option LinForm → Type 0
  Goes c ts next best below =
      (settled_at facts c ts (next + 1) (Some (gained (one_is_enough ts) best (turn_bound facts (Form below)))) ≡ settled_at facts c ts next best)
      × (turn_met facts (Form below) + unmet_at facts c ts (next + 1) ≡ unmet_at facts c ts next)
      × IsTurn facts (Form below)

  abbrev pub Choices : Terms → List LinForm
  Choices ts = choices (fact_at facts (get_or ts 0 zero_at).0) (get_or ts 0 zero_at).1

  module _ (c : ℤ) (t : ℕ × ℤ) (ts : Terms) (next : ℕ) (f : Falls (length facts) (t ∷ ts)) (k : next < length (choices (fact_at facts t.0) t.1)) where
    abbrev At : LinForm
    At = get_or (choices (fact_at facts t.0) t.1) next (number (pos 0))

    abbrev Sum : LinForm
    Sum = plus (form c ts) t.1 At

    is : (turn_bound facts (Form (sum_or Sum)) ≡ bound facts t.0 Sum) × (turn_met facts (Form (sum_or Sum)) ≡ forms_met facts t.0 Sum) × IsTurn facts (Form (sum_or Sum))
    is =
        let l : t.0 < length facts = f.0 in
        turn_is facts t.0 Sum (falls_sum t.0 t.1 ts At.terms f.1 (choice_falls t.0 (fact_at facts t.0) t.1 next (known t.0 l) k)) (omega arith)

    opens : drop next (choices (fact_at facts t.0) t.1) ≡ At ∷ drop (next + 1) (choices (fact_at facts t.0) t.1)
    opens = rw add-one (drop-cons (choices (fact_at facts t.0) t.1) next (number (pos 0)) k)

    abbrev Continued : Option (Option ℤ) → List LinForm → Option ℤ
    Continued b xs = continued (int_lt (pos 0) t.1) b (bounds_of (bound facts t.0) c ts t.1 xs)

    met : turn_met facts (Form (sum_or Sum)) + unmet_at facts c (t ∷ ts) (next + 1) ≡ unmet_at facts c (t ∷ ts) next
    met = ap (λ (n : ℕ). n + unmet_at facts c (t ∷ ts) (next + 1)) is.1 ∙ ap (met_of (forms_met facts t.0) c ts t.1) (sym opens)

    goes_at : (best : Option (Option ℤ)) → Goes c (t ∷ ts) next best (sum_or Sum)
    goes_at None = (ap (λ (x : Option ℤ). settled_at facts c (t ∷ ts) (next + 1) (Some x)) is.0 ∙ ap (Continued None) (sym opens), met, is.2)
    goes_at (Some b) = (ap (λ (x : Option ℤ). settled_at facts c (t ∷ ts) (next + 1) (Some (join (int_lt (pos 0) t.1) b x))) is.0 ∙ ap (Continued (Some b)) (sym opens), met, is.2)

  -- a further choice is taken up
  pub goes : (c : ℤ) (ts : Terms) (next : ℕ) (best : Option (Option ℤ)) (below : Option LinForm) → Falls (length facts) ts → 0 < length ts → next < length (Choices ts) →
      below ≡ replaced c ts (get_or (Choices ts) next (number (pos 0))) → Goes c ts next best below
  goes c [] next best below f h k e = absurd (omega arith)
  goes c (t ∷ ts) next best below f h k e = subst (λ (x : Option LinForm). Goes c (t ∷ ts) next best x) (sym e) (goes_at c t ts next f k best)

  abbrev pub flat : Option (Option ℤ) → Option ℤ
  flat None = None
  flat (Some b) = b

  -- no choice is left
  pub ends : (c : ℤ) (ts : Terms) (next : ℕ) (best : Option (Option ℤ)) → 0 < length ts → length (Choices ts) ≤ next → (flat best ≡ settled_at facts c ts next best) × (unmet_at facts c ts next ≡ 0)
  ends c [] next best h k = absurd (omega arith)
  ends c (t ∷ ts) next None h k = let d = drop_all next (choices (fact_at facts t.0) t.1) k in (
    sym (ap (λ (xs : List LinForm). continued (int_lt (pos 0) t.1) None (bounds_of (bound facts t.0) c ts t.1 xs)) d),
    ap (met_of (forms_met facts t.0) c ts t.1) d,
  )
  ends c (t ∷ ts) next (Some b) h k = let d = drop_all next (choices (fact_at facts t.0) t.1) k in (
    sym (ap (λ (xs : List LinForm). continued (int_lt (pos 0) t.1) (Some b) (bounds_of (bound facts t.0) c ts t.1 xs)) d),
    ap (met_of (forms_met facts t.0) c ts t.1) d,
  )

  -- the fact that the code reads, and its choices
  module _ (ts us : Terms) (fact : Fact) (e : us ≡ ts) (f : Falls (length facts) ts) (some : 0 < length ts) (is : fact ≡ get_or facts (get_or us 0 zero_at).0 fact) where
    pub chosen : fact_at facts (get_or ts 0 zero_at).0 ≡ fact
    chosen = fact_is facts (get_or ts 0 zero_at).0 fact (first_below (length facts) ts f some) (is ∙ ap (λ (x : Terms). get_or facts (get_or x 0 zero_at).0 fact) e)

    pub chosen_fact : IsFact (get_or ts 0 zero_at).0 fact
    chosen_fact = subst (IsFact (get_or ts 0 zero_at).0) chosen (known (get_or ts 0 zero_at).0 (first_below (length facts) ts f some))

    pub choices_are : FitsSigned w64 (get_or us 0 zero_at).1 → choices fact (to_z w64 (of_z w64 (get_or us 0 zero_at).1)) ≡ Choices ts
    choices_are h =
        ap (choices fact) (to_z-of_z w64 (get_or us 0 zero_at).1 h) ∙ ap (λ (x : Terms). choices fact (get_or x 0 zero_at).1) e
        ∙ ap (λ (x : Fact). choices x (get_or ts 0 zero_at).1) (sym chosen)

-- FORMS that are taken up
module _ (facts : List Fact) where
  begins_at : (c : ℤ) (ts : Terms) → Falls (length facts) ts → IsTrue (within (form c ts)) → 0 < length ts →
      (bound facts (length facts) (form c ts) ≡ settled_at facts c ts 0 None) × (forms_met facts (length facts) (form c ts) ≡ 1 + unmet_at facts c ts 0)
  begins_at c [] f w h = absurd (omega arith)
  begins_at c (t ∷ ts) f w h = both_at facts c t ts w (length facts) f.0

  pub begins : (f : LinForm) → IsForm (length facts) f → 0 < length f.terms →
      (bound facts (length facts) f ≡ settled_at facts f.constant f.terms 0 None) × (forms_met facts (length facts) f ≡ 1 + unmet_at facts f.constant f.terms 0)
  begins f h k = begins_at f.constant f.terms h.0 h.1 k

  lone_at : (c : ℤ) (ts : Terms) → IsTrue (within (form c ts)) → length ts ≡ 0 → (bound facts (length facts) (form c ts) ≡ Some c) × (forms_met facts (length facts) (form c ts) ≡ 1)
  lone_at c [] w h = (bound_none facts (length facts) c w, met_none facts (length facts) c w)
  lone_at c (t ∷ ts) w h = absurd (omega arith)

  pub lone : (f : LinForm) → IsForm (length facts) f → length f.terms ≡ 0 → (bound facts (length facts) f ≡ Some f.constant) × (forms_met facts (length facts) f ≡ 1)
  lone f h k = lone_at f.constant f.terms h.1 k

-- STACKS
pub finished_more : (facts : List Fact) (frs : List Frame) (fr : Frame) (x : Option ℤ) → finished facts (frs ++ fr ∷ []) x ≡ finished facts frs (after facts fr x)
finished_more facts [] fr x = refl
finished_more facts (f ∷ frs) fr x = ap (after facts f) (finished_more facts frs fr x)

pub unmet_more : (facts : List Fact) (frs : List Frame) (fr : Frame) → all_unmet facts (frs ++ fr ∷ []) ≡ all_unmet facts frs + unmet facts fr
unmet_more facts [] fr = add_none (unmet facts fr) where
  add_none : (n : ℕ) → n + 0 ≡ 0 + n
  add_none n = omega arith
unmet_more facts (f ∷ frs) fr = ap (λ (n : ℕ). unmet facts f + n) (unmet_more facts frs fr) ∙ regrouped (unmet facts f) (all_unmet facts frs) (unmet facts fr) where
  regrouped : (a b c : ℕ) → a + (b + c) ≡ (a + b) + c
  regrouped a b c = omega arith

pub frames_more : (facts : List Fact) (frs : List Frame) (fr : Frame) → AreFrames facts frs → IsFrame facts fr → AreFrames facts (frs ++ fr ∷ [])
frames_more facts [] fr h k = (k, tt)
frames_more facts (f ∷ frs) fr h k = (h.0, frames_more facts frs fr h.1 k)

pub frames_less : (facts : List Fact) (frs : List Frame) (fr : Frame) → AreFrames facts (frs ++ fr ∷ []) → AreFrames facts frs × IsFrame facts fr
frames_less facts [] fr h = (tt, h.0)
frames_less facts (f ∷ frs) fr h = let r = frames_less facts frs fr h.1 in ((h.0, r.0), r.1)

pub turn_some : (facts : List Fact) (f : Option LinForm) → 0 < turn_met facts (Form f)
turn_some facts None = omega arith
turn_some facts (Some f) = met_pos facts (length facts) f
