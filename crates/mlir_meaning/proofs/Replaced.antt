-- Operations at a place may be replaced by others that run alike in each state that comes to it.
use Rattle.std.proofs.Common.{◌≡◌, ℕ, zero, suc, Bool, ℤ, ◌+ℤ◌, List, [], ◌∷◌, ◌++◌, map, inl, inr, refl, ap, sym, ◌∙◌, subst}
use Rattle.std.specs.Prelude.{Result, Ok, Err}
use Rattle.mlir_ir.specs.Count.{idx_values}
use Rattle.mlir_ir.specs.declared.tree.Op.{Op}
use Rattle.mlir_ir.specs.declared.tree.Ty.{Ty}
use Rattle.mlir_ir.specs.declared.tree.ValueId.{ValueId}
use Rattle.mlir_meaning.specs.declared.answer.Fault.{Fault}
use Rattle.mlir_meaning.specs.Grids.{points, InBox, Each}
use Rattle.mlir_meaning.specs.States.{Datum, Insertion, State, Outcome, Goes, Ends, Fails, number_of, number_in, indices_in, defines, then_goes, then_ends, then_made}
use Rattle.mlir_meaning.specs.Loops.{ForHead, ForallHead, starts, trips, turns, for_state, for_trips, for_meaning, trip_counts, forall_box, forall_state, insertions_of, gathered, inserted_data, forall_meaning}
use Rattle.mlir_meaning.specs.Meaning.{kind_meaning, run, initial_state, answer_of, meaning}
use Rattle.mlir_meaning.specs.Contexts.{for_op, forall_op, Context, Here, InFor, InForall, plug, TurnBegins, ForBegins, Reaches}
use Rattle.mlir_meaning.specs.Names.{AreIn, OpsReadOnly, SameThrough, AlikeThrough, SameOn, AlikeOn}
use Rattle.mlir_meaning.specs.Renaming.{reused_ops, reused_after}
use Rattle.mlir_meaning.specs.Replacement.{for_operands, forall_operands, AroundReadsOnly, AfterDefinesOnly, StandsAlone}
use Rattle.mlir_meaning.specs.Laws.{PlaceRunsAlike, ContextKeepsMeaning, ReplacementKeepsMeaning}
use Rattle.mlir_meaning.proofs.Bodies.{meaning-for, meaning-forall}
use Rattle.mlir_meaning.proofs.Defining.{each_any}
use Rattle.mlir_meaning.proofs.Frame.{frame, reused_alike, agree, agreed, aliked}
use Rattle.mlir_meaning.proofs.Grids.{map_same, each_more, each_point}
use Rattle.mlir_meaning.proofs.Identity.{same, values-id, indices-id, arguments-id, defined-id}
use Rattle.mlir_meaning.proofs.Runs.{run-append, run-one}
use Rattle.mlir_meaning.proofs.Through.{each_left, each_right, Lasts, Alike, for_head, forall_head, for_state-alike, forall_state-alike, indices-same, starts-same, finished, completed}

-- both end with the same values, go on with the same insertions, or fail alike
abbrev pub SameEnd : Outcome → Outcome → Type 0
SameEnd (Ends ds) (Ends es) = ds ≡ es
SameEnd (Goes s) (Goes t) = s.inserts ≡ t.inserts
SameEnd (Fails x) (Fails y) = x ≡ y
SameEnd _ _ = ⊥

pub same_answer : (o p : Outcome) → SameEnd o p → answer_of o ≡ answer_of p
same_answer (Ends ds) (Ends es) h = ap (λ x. answer_of (Ends x)) h
same_answer (Goes s) (Goes t) h = refl
same_answer (Fails x) (Fails y) h = ap (λ z. answer_of (Fails z)) h
same_answer (Ends ds) (Goes t) h = absurd h
same_answer (Ends ds) (Fails y) h = absurd h
same_answer (Goes s) (Ends es) h = absurd h
same_answer (Goes s) (Fails y) h = absurd h
same_answer (Fails x) (Ends es) h = absurd h
same_answer (Fails x) (Goes t) h = absurd h

ends_same : (o p : Outcome) (f g : List Datum → Outcome) → SameEnd o p → ((ds : List Datum) → o ≡ Ends ds → f ds ≡ g ds) → then_ends o f ≡ then_ends p g
ends_same (Ends ds) (Ends es) f g a h = h ds refl ∙ ap g a
ends_same (Goes s) (Goes t) f g a h = refl
ends_same (Fails x) (Fails y) f g a h = ap Fails a
ends_same (Goes s) (Ends es) f g a h = absurd a
ends_same (Goes s) (Fails y) f g a h = absurd a
ends_same (Ends ds) (Goes t) f g a h = absurd a
ends_same (Ends ds) (Fails y) f g a h = absurd a
ends_same (Fails x) (Goes t) f g a h = absurd a
ends_same (Fails x) (Ends es) f g a h = absurd a

insertions_same : (o p : Outcome) → SameEnd o p → insertions_of o ≡ insertions_of p
insertions_same (Goes s) (Goes t) a = ap Ok a
insertions_same (Ends ds) (Ends es) a = refl
insertions_same (Fails x) (Fails y) a = ap Err a
insertions_same (Goes s) (Ends es) a = absurd a
insertions_same (Goes s) (Fails y) a = absurd a
insertions_same (Ends ds) (Goes t) a = absurd a
insertions_same (Ends ds) (Fails y) a = absurd a
insertions_same (Fails x) (Goes t) a = absurd a
insertions_same (Fails x) (Ends es) a = absurd a

pub turns_same : (f g : ℤ → List Datum → Outcome) (step : ℤ) (n : ℕ) (number : ℤ) (ds : List Datum) →
    ((m : ℤ) (es : List Datum) → TurnBegins f step n number ds m es → SameEnd (f m es) (g m es)) → turns f step n number ds ≡ turns g step n number ds
turns_same f g step zero number ds h = refl
turns_same f g step (suc n) number ds h =
    ends_same (f number ds) (g number ds) _ _ (h number ds (inl (refl, refl))) (λ fs e. turns_same f g step n (number +ℤ step) fs (λ m es b. h m es (inr (fs, e, b))))

module _ (N : ℕ → Bool) where
  pub ends_through : (f : ℕ → ℕ) (o p : Outcome) → AlikeThrough N f o p → SameEnd o p
  ends_through f (Goes s) (Goes t) h = h.inserts
  ends_through f (Ends ds) (Ends es) h = h
  ends_through f (Fails x) (Fails y) h = h
  ends_through f (Goes s) (Ends es) h = absurd h
  ends_through f (Goes s) (Fails y) h = absurd h
  ends_through f (Ends ds) (Goes t) h = absurd h
  ends_through f (Ends ds) (Fails y) h = absurd h
  ends_through f (Fails x) (Goes t) h = absurd h
  ends_through f (Fails x) (Ends es) h = absurd h

  pub then_end : (f : ℕ → ℕ) (o p : Outcome) (g h : State → Outcome) → AlikeThrough N f o p → ((u v : State) → o ≡ Goes u → SameThrough N f u v → SameEnd (g u) (h v)) →
      SameEnd (then_goes o g) (then_goes p h)
  then_end f (Goes s) (Goes t) g h a k = k s t refl a
  then_end f (Ends ds) (Ends es) g h a k = a
  then_end f (Fails x) (Fails y) g h a k = a
  then_end f (Goes s) (Ends es) g h a k = absurd a
  then_end f (Goes s) (Fails y) g h a k = absurd a
  then_end f (Ends ds) (Goes t) g h a k = absurd a
  then_end f (Ends ds) (Fails y) g h a k = absurd a
  then_end f (Fails x) (Goes t) g h a k = absurd a
  then_end f (Fails x) (Ends es) g h a k = absurd a

  last : (v : ℕ) → Lasts N same same same v
  last v = (λ w r. refl, λ w r. refl)

  all_last : (vs : List ValueId) → Each (λ (v : ValueId). Lasts N same same same v.0) vs
  all_last = each_any (λ (v : ValueId). Lasts N same same same v.0) (λ v. last v.0)

  -- LOOPS WHOSE BODIES END ALIKE
  pub for_head-id : (h : ForHead) → for_head N same same same h ≡ h
  for_head-id h = λ j. record { var = h.var; lower = h.lower; upper = h.upper; step = h.step; carried = arguments-id h.carried j }

  pub forall_head-id : (h : ForallHead) → forall_head N same same same h ≡ h
  forall_head-id h = λ j. record { vars = values-id h.vars j; lower = indices-id h.lower j; upper = indices-id h.upper j; step = indices-id h.step j; shared = arguments-id h.shared j }

  pub for_begins : (h : ForHead) (s t : State) (n : ℤ) (ds : List Datum) → SameOn N s t → SameOn N (for_state s h n ds) (for_state t h n ds)
  for_begins h s t n ds a =
      subst (λ g. SameOn N (for_state s h n ds) (for_state t g n ds)) (for_head-id h)
      (agreed N same _ _ (for_state-alike N same same same h s t n ds (last h.var.0) (all_last _) (agree N same s t a)))

  pub forall_begins : (h : ForallHead) (s t : State) (p : List ℕ) → AreIn N (forall_operands h) → SameOn N s t → SameOn N (forall_state s h p) (forall_state t h p)
  forall_begins h s t p read a =
      let L = idx_values h.lower in
      let U = idx_values h.upper in
      let S = idx_values h.step in
      let firsts = each_left _ (L ++ U ++ S) _ read in
      subst (λ g. SameOn N (forall_state s h p) (forall_state t g p)) (forall_head-id h)
      (agreed N same _ _ (forall_state-alike N same same same h s t p (each_left _ L _ (each_left _ (L ++ U) _ firsts)) (each_right _ (L ++ U) _ firsts) (each_right _ (L ++ U ++ S) _ read)
      (all_last h.vars) (all_last _) (agree N same s t a)))

  module _ (b b' : State → Outcome) (rs : List (ValueId × Ty)) (s t : State) (a : SameOn N s t) where
    pub for_same : (h : ForHead) → AreIn N (for_operands h) →
        ((m : ℤ) (es : List Datum) → ForBegins h b s m es → SameEnd (b (for_state s h m es)) (b' (for_state t h m es))) →
        AlikeOn N (for_meaning h b rs s) (for_meaning h b' rs t)
    unfolding for_meaning
    for_same h read like =
        let lower : number_in s.values h.lower ≡ number_in t.values h.lower = ap number_of (a.values h.lower.0 read.0) in
        let upper : number_in s.values h.upper ≡ number_in t.values h.upper = ap number_of (a.values h.upper.0 read.1.0) in
        let step : number_in s.values h.step ≡ number_in t.values h.step = ap number_of (a.values h.step.0 read.1.1.0) in
        let begun : starts s.values h.carried ≡ starts t.values h.carried =
        starts-same N same same same s.values t.values h.carried a.values read.1.1.1 ∙ ap (starts t.values) (arguments-id h.carried) in
        let body : ℤ → List Datum → Outcome = λ n ds. b (for_state s h n ds) in
        let body' : ℤ → List Datum → Outcome = λ n ds. b' (for_state t h n ds) in
        let whole : Outcome = turns body (number_in s.values h.step) (for_trips s h) (number_in s.values h.lower) (starts s.values h.carried) in
        let whole' : Outcome = turns body' (number_in t.values h.step) (for_trips t h) (number_in t.values h.lower) (starts t.values h.carried) in
        let one : whole ≡ whole' =
        turns_same body body' _ _ _ _ like ∙ (λ j. turns body' (step j) (trips (lower j) (upper j) (step j)) (lower j) (begun j)) in
        subst (λ o. AlikeOn N (then_ends whole (defines rs s)) (then_ends o (defines rs t))) one
        (aliked N same _ _ (subst (λ qs. Alike N same same same (then_ends whole (defines rs s)) (then_ends whole (defines qs t))) (defined-id rs)
        (finished N same same same rs s t whole (all_last _) (agree N same s t a))))

    pub forall_same : (h : ForallHead) → AreIn N (forall_operands h) →
        ((p : List ℕ) → InBox (forall_box s h) p → SameEnd (b (forall_state s h p)) (b' (forall_state t h p))) →
        AlikeOn N (forall_meaning h b rs s) (forall_meaning h b' rs t)
    unfolding forall_meaning
    forall_same h read like =
        let L = idx_values h.lower in
        let U = idx_values h.upper in
        let S = idx_values h.step in
        let firsts = each_left _ (L ++ U ++ S) _ read in
        let lower : indices_in s.values h.lower ≡ indices_in t.values h.lower =
        indices-same N same same same s.values t.values h.lower a.values (each_left _ L _ (each_left _ (L ++ U) _ firsts)) ∙ ap (indices_in t.values) (indices-id h.lower) in
        let upper : indices_in s.values h.upper ≡ indices_in t.values h.upper =
        indices-same N same same same s.values t.values h.upper a.values (each_right _ L _ (each_left _ (L ++ U) _ firsts)) ∙ ap (indices_in t.values) (indices-id h.upper) in
        let step : indices_in s.values h.step ≡ indices_in t.values h.step =
        indices-same N same same same s.values t.values h.step a.values (each_right _ (L ++ U) _ firsts) ∙ ap (indices_in t.values) (indices-id h.step) in
        let begun : starts s.values h.shared ≡ starts t.values h.shared =
        starts-same N same same same s.values t.values h.shared a.values (each_right _ (L ++ U ++ S) _ read) ∙ ap (starts t.values) (arguments-id h.shared) in
        let body : List ℕ → Result (List Insertion) Fault = λ p. insertions_of (b (forall_state s h p)) in
        let body' : List ℕ → Result (List Insertion) Fault = λ p. insertions_of (b' (forall_state t h p)) in
        let ps : List (List ℕ) = points (forall_box s h) in
        let one : map body ps ≡ map body' (points (forall_box t h)) =
        map_same body body' ps (each_more (InBox (forall_box s h)) (λ p. body p ≡ body' p) (λ p i. insertions_same _ _ (like p i)) ps (each_point (forall_box s h)))
        ∙ (λ j. map body' (points (trip_counts (lower j) (upper j) (step j)))) in
        let whole : Outcome = then_made (gathered (map body ps)) (λ is. defines rs s (inserted_data is 0 (starts s.values h.shared))) in
        subst (λ r. AlikeOn N whole (then_made (gathered r) (λ is. defines rs t (inserted_data is 0 (starts t.values h.shared))))) one
        (subst (λ ds. AlikeOn N whole (then_made (gathered (map body ps)) (λ is. defines rs t (inserted_data is 0 ds)))) begun
        (aliked N same _ _ (subst (λ qs. Alike N same same same whole (then_made (gathered (map body ps)) (λ is. defines qs t (inserted_data is 0 (starts s.values h.shared))))) (defined-id rs)
        (completed N same same same rs s t (gathered (map body ps)) (starts s.values h.shared) (all_last _) (agree N same s t a)))))

  then_alike : (o p : Outcome) (g h : State → Outcome) → AlikeOn N o p → ((u v : State) → o ≡ Goes u → SameOn N u v → AlikeOn N (g u) (h v)) →
      AlikeOn N (then_goes o g) (then_goes p h)
  then_alike (Goes s) (Goes t) g h a k = k s t refl a
  then_alike (Ends ds) (Ends es) g h a k = a
  then_alike (Fails x) (Fails y) g h a k = a
  then_alike (Goes s) (Ends es) g h a k = absurd a
  then_alike (Goes s) (Fails y) g h a k = absurd a
  then_alike (Ends ds) (Goes t) g h a k = absurd a
  then_alike (Ends ds) (Fails y) g h a k = absurd a
  then_alike (Fails x) (Goes t) g h a k = absurd a
  then_alike (Fails x) (Ends es) g h a k = absurd a

  -- BETWEEN OTHER OPERATIONS
  -- two lists that run alike do so between others
  alike_between : (before after xs ys : List Op) (s t : State) → OpsReadOnly N before → OpsReadOnly N after → SameOn N s t →
      ((u v : State) → run before s ≡ Goes u → SameOn N u v → AlikeOn N (run xs u) (run ys v)) → AlikeOn N (run (before ++ (xs ++ after)) s) (run (before ++ (ys ++ after)) t)
  alike_between before after xs ys s t hb ha a like =
      subst (λ p. AlikeOn N p (run (before ++ (ys ++ after)) t)) (sym (run-append before (xs ++ after) s))
      (subst (AlikeOn N (then_goes (run before s) (run (xs ++ after)))) (sym (run-append before (ys ++ after) t))
      (then_alike (run before s) (run before t) (run (xs ++ after)) (run (ys ++ after)) (frame N before s t hb a)
      (λ u v e c.
      subst (λ p. AlikeOn N p (run (ys ++ after) v)) (sym (run-append xs after u))
      (subst (AlikeOn N (then_goes (run xs u) (run after))) (sym (run-append ys after v))
      (then_alike _ _ (run after) (run after) (like u v e c) (λ x y g d. frame N after x y ha d))))))

  -- and so does an operation
  alike_one : (o o' : Op) (u v : State) → AlikeOn N (kind_meaning o.kind o.results u) (kind_meaning o'.kind o'.results v) → AlikeOn N (run (o ∷ []) u) (run (o' ∷ []) v)
  alike_one o o' u v a = subst (λ p. AlikeOn N p (run (o' ∷ []) v)) (sym (run-one o u)) (subst (AlikeOn N (kind_meaning o.kind o.results u)) (sym (run-one o' v)) a)

  -- a loop between other operations ends alike
  between : (before after : List Op) (o o' : Op) (s t : State) → OpsReadOnly N before → OpsReadOnly N after → SameOn N s t →
      ((u v : State) → run before s ≡ Goes u → SameOn N u v → AlikeOn N (kind_meaning o.kind o.results u) (kind_meaning o'.kind o'.results v)) →
      SameEnd (run (before ++ (o ∷ after)) s) (run (before ++ (o' ∷ after)) t)
  unfolding run
  between before after o o' s t hb ha a like =
      subst (λ p. SameEnd p (run (before ++ (o' ∷ after)) t)) (sym (run-append before (o ∷ after) s))
      (subst (SameEnd (then_goes (run before s) (run (o ∷ after)))) (sym (run-append before (o' ∷ after) t))
      (then_end same (run before s) (run before t) (run (o ∷ after)) (run (o' ∷ after)) (frame N before s t hb a)
      (λ u v e c. then_end same _ _ (run after) (run after) (like u v e c) (λ x y g d. ends_through same _ _ (frame N after x y ha d)))))

  -- the operations and what follows, at the place
  at_place : (f : ℕ → ℕ) (before after old new : List Op) (s t : State) → OpsReadOnly N before → OpsReadOnly N after → AfterDefinesOnly (StandsAlone N f) (Here before after) → SameOn N s t →
      ((u v : State) → run before s ≡ Goes u → SameOn N u v → AlikeThrough N f (run old u) (run new v)) →
      SameEnd (run (before ++ (old ++ after)) s) (run (before ++ (new ++ reused_ops f after)) t)
  at_place f before after old new s t hb ha alone a like =
      subst (λ p. SameEnd p (run (before ++ (new ++ reused_ops f after)) t)) (sym (run-append before (old ++ after) s))
      (subst (SameEnd (then_goes (run before s) (run (old ++ after)))) (sym (run-append before (new ++ reused_ops f after) t))
      (then_end same (run before s) (run before t) (run (old ++ after)) (run (new ++ reused_ops f after)) (frame N before s t hb a)
      (λ u v e c.
      subst (λ p. SameEnd p (run (new ++ reused_ops f after) v)) (sym (run-append old after u))
      (subst (SameEnd (then_goes (run old u) (run after))) (sym (run-append new (reused_ops f after) v))
      (then_end f _ _ (run after) (run (reused_ops f after)) (like u v e c) (λ x y g d. ends_through f _ _ (reused_alike N f after x y ha alone d)))))))

  module _ (f : ℕ → ℕ) (old new : List Op) where
    pub replaced : (k : Context) (s t : State) → AroundReadsOnly N k → AfterDefinesOnly (StandsAlone N f) k → SameOn N s t →
        ((u v : State) → Reaches k old s u → SameOn N u v → AlikeThrough N f (run old u) (run new v)) →
        SameEnd (run (plug k old) s) (run (plug (reused_after f k) new) t)
    replaced (Here before after) s t h alone a local = at_place f before after old new s t h.0 h.1 alone a (λ u v e c. local u v e c)
    replaced (InFor before l inner after) s t h alone a local =
        between before after (for_op l (plug inner old)) (for_op l (plug (reused_after f inner) new)) s t h.0 h.3 a
        (λ u v e c.
        subst (λ o. AlikeOn N o (kind_meaning (for_op l (plug (reused_after f inner) new)).kind l.results v)) (λ i. sym (meaning-for l.head (plug inner old)) i l.results u)
        (subst (AlikeOn N (for_meaning l.head (run (plug inner old)) l.results u)) (λ i. sym (meaning-for l.head (plug (reused_after f inner) new)) i l.results v)
        (for_same (run (plug inner old)) (run (plug (reused_after f inner) new)) l.results u v c l.head h.1
        (λ m es b. replaced inner (for_state u l.head m es) (for_state v l.head m es) h.2 alone (for_begins l.head u v m es c)
        (λ x y r d. local x y (u, e, m, es, b, r) d)))))
    replaced (InForall before l inner after) s t h alone a local =
        between before after (forall_op l (plug inner old)) (forall_op l (plug (reused_after f inner) new)) s t h.0 h.3 a
        (λ u v e c.
        subst (λ o. AlikeOn N o (kind_meaning (forall_op l (plug (reused_after f inner) new)).kind l.results v)) (λ i. sym (meaning-forall l.head (plug inner old)) i l.results u)
        (subst (AlikeOn N (forall_meaning l.head (run (plug inner old)) l.results u)) (λ i. sym (meaning-forall l.head (plug (reused_after f inner) new)) i l.results v)
        (forall_same (run (plug inner old)) (run (plug (reused_after f inner) new)) l.results u v c l.head h.1
        (λ p b. replaced inner (forall_state u l.head p) (forall_state v l.head p) h.2 alone (forall_begins l.head u v p h.1 c)
        (λ x y r d. local x y (u, e, p, b, r) d)))))

-- operations at a place run alike, and so does what is around them
module _ (N : ℕ → Bool) (old new : List Op) where
  pub context_alike : (k : Context) (s t : State) → AroundReadsOnly N k → SameOn N s t →
      ((u v : State) → Reaches k old s u → SameOn N u v → AlikeOn N (run old u) (run new v)) → AlikeOn N (run (plug k old) s) (run (plug k new) t)
  context_alike (Here before after) s t h a local = alike_between N before after old new s t h.0 h.1 a (λ u v e c. local u v e c)
  context_alike (InFor before l inner after) s t h a local =
      alike_between N before after (for_op l (plug inner old) ∷ []) (for_op l (plug inner new) ∷ []) s t h.0 h.3 a
      (λ u v e c. alike_one N (for_op l (plug inner old)) (for_op l (plug inner new)) u v
      (subst (λ o. AlikeOn N o (kind_meaning (for_op l (plug inner new)).kind l.results v)) (λ i. sym (meaning-for l.head (plug inner old)) i l.results u)
      (subst (AlikeOn N (for_meaning l.head (run (plug inner old)) l.results u)) (λ i. sym (meaning-for l.head (plug inner new)) i l.results v)
      (for_same N (run (plug inner old)) (run (plug inner new)) l.results u v c l.head h.1
      (λ m es b. ends_through N same _ _ (context_alike inner (for_state u l.head m es) (for_state v l.head m es) h.2 (for_begins N l.head u v m es c)
      (λ x y r d. local x y (u, e, m, es, b, r) d)))))))
  context_alike (InForall before l inner after) s t h a local =
      alike_between N before after (forall_op l (plug inner old) ∷ []) (forall_op l (plug inner new) ∷ []) s t h.0 h.3 a
      (λ u v e c. alike_one N (forall_op l (plug inner old)) (forall_op l (plug inner new)) u v
      (subst (λ o. AlikeOn N o (kind_meaning (forall_op l (plug inner new)).kind l.results v)) (λ i. sym (meaning-forall l.head (plug inner old)) i l.results u)
      (subst (AlikeOn N (forall_meaning l.head (run (plug inner old)) l.results u)) (λ i. sym (meaning-forall l.head (plug inner new)) i l.results v)
      (forall_same N (run (plug inner old)) (run (plug inner new)) l.results u v c l.head h.1
      (λ p b. ends_through N same _ _ (context_alike inner (forall_state u l.head p) (forall_state v l.head p) h.2 (forall_begins N l.head u v p h.1 c)
      (λ x y r d. local x y (u, e, p, b, r) d)))))))

pub place_runs_alike : PlaceRunsAlike
place_runs_alike N k old new s t h a local = context_alike N old new k s t h a local

same_state : (N : ℕ → Bool) (s : State) → SameOn N s s
same_state N s = record { values = λ v h. refl; shared = refl; inserts = refl }

pub replacement_keeps : ReplacementKeepsMeaning
unfolding meaning
replacement_keeps N f k old new func inputs h alone local =
    let s = initial_state func.params inputs in sym (same_answer _ _ (replaced N f old new k s s h alone (same_state N s) local))

pub context_keeps : ContextKeepsMeaning
unfolding meaning
context_keeps N k old new func inputs h local =
    let s = initial_state func.params inputs in sym (same_answer _ _ (ends_through N same _ _ (context_alike N old new k s s h (same_state N s) local)))
