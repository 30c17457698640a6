-- Whole texts: what is read is a text of the format, and else reading stops at the first token with which none goes on.
use Rattle.std.specs.Prelude.{◌≡◌, ℕ, List, [], ◌∷◌, ◌++◌, length, ◌⊎◌, Some, None}
use Rattle.std.proofs.Common.{refl, sym, ap, subst, ◌∙◌, inl, inr, append_assoc, arith}
use Rattle.std.proofs.lemmas.List.{append-nil}
use Rattle.text_format.specs.declared.class.Class.{Class}
use Rattle.text_format.specs.declared.class.Reason.{Reason}
use Rattle.text_format.specs.Token.{TokenShape}
use Rattle.text_format.specs.Lexemes.{lexeme_kind, lexeme_text}
use Rattle.text_format.specs.Classes.{refusal}
use Rattle.text_format.specs.Formats.{State, Stop, Item, Fixed, Leaf, class_of, live, stopped, at_token, at_end, Format}
use Rattle.text_format.specs.Laws.{IsItem, Matches, Filled, reason, ConsumesFrom}
use Rattle.text_format.specs.Ends.{IsWhole}
use Rattle.text_format.specs.Parsing.{end_of}

-- some text of the format begins with these tokens
abbrev pub Begins : {A : Type 0} → Format A → List TokenShape → Type 0
Begins {A} f ts = (x : A) × (after : List TokenShape) × Matches (f.spell x) (ts ++ after)

-- the token is refused as what some text has behind these tokens, or, where they are a text, as one of the class wanted there
abbrev pub Refuses : {A : Type 0} → Format A → Class → List TokenShape → TokenShape → Reason → Type 0
Refuses {A} f wanted ts t why =
    ((x : A) × (pre : List Item) × (i : Item) × (tail : List Item) × (f.spell x ≡ pre ++ i ∷ tail) × Matches pre ts × (why ≡ reason i t))
    ⊎ ((x : A) × Matches (f.spell x) ts × (why ≡ refusal wanted t))

-- the stop of a text that is none of the format: the first token with which none goes on, or the end, where more is wanted
abbrev pub StopsAt : {A : Type 0} → Format A → Class → ℕ → List TokenShape → List TokenShape → Stop → Type 0
StopsAt f wanted end ts [] p = (p ≡ at_end end) × Begins f ts
StopsAt f wanted end ts (t ∷ after) p = (p.at ≡ t.start) × Begins f ts × (Begins f (ts ++ t ∷ []) → ⊥) × Refuses f wanted ts t p.why

-- the tokens stop so
abbrev pub IsFault : {A : Type 0} → Format A → Class → ℕ → List TokenShape → Stop → Type 0
IsFault f wanted end all p = (ts after : List TokenShape) × (all ≡ ts ++ after) × StopsAt f wanted end ts after p

-- ---- what was read

-- tokens that match the items, where some may
any_for : (is : List Item) → Filled is → (ts : List TokenShape) × Matches is ts
any_for [] f = ([], tt)
any_for (Fixed l ∷ is) f =
    let r = any_for is f in
    let t : TokenShape = record { kind = lexeme_kind l; start = 0; text = lexeme_text l } in
    (t ∷ r.0, ((refl, refl), r.1))
any_for (Leaf c u ∷ is) f =
    let r = any_for is f.1 in
    (u ∷ r.0, ((f.0, refl), r.1))

-- the items were all read
record Whole (end : ℕ) (is : List Item) (ts : List TokenShape) (s : State) : Type 0 where
  before : List TokenShape
  parts : ts ≡ before ++ s.rest
  matches : Matches is before
  is_live : s ≡ live end s.rest

-- reading stopped where this item is wanted
record Halted (end : ℕ) (is : List Item) (ts : List TokenShape) (s : State) : Type 0 where
  before : List TokenShape
  pre : List Item
  item : Item
  tail : List Item
  parts : ts ≡ before ++ s.rest
  spelled : is ≡ pre ++ item ∷ tail
  matches : Matches pre before
  filled : Filled (item ∷ tail)
  stop : (s ≡ stopped (at_end end) end []) ⊎ ((t : TokenShape) × (after : List TokenShape) × (s ≡ stopped (at_token (class_of item) t) end (t ∷ after)))

went_on : (end : ℕ) (i : Item) (is : List Item) (t : TokenShape) (ts : List TokenShape) (s : State) → IsItem i t → Whole end is ts s ⊎ Halted end is ts s → Whole end (i ∷ is) (t ∷ ts) s ⊎ Halted end (i ∷ is) (t ∷ ts) s
went_on end i is t ts s p (inl r) =
    inl (record { before = t ∷ r.before; parts = ap (λ (x : List TokenShape). t ∷ x) r.parts; matches = (p, r.matches); is_live = r.is_live })
went_on end i is t ts s p (inr r) =
    inr (record {
      before = t ∷ r.before;
      pre = i ∷ r.pre;
      item = r.item;
      tail = r.tail;
      parts = ap (λ (x : List TokenShape). t ∷ x) r.parts;
      spelled = ap (λ (x : List Item). i ∷ x) r.spelled;
      matches = (p, r.matches);
      filled = r.filled;
      stop = r.stop;
    })

went : (end : ℕ) (is : List Item) (ts : List TokenShape) (s : State) → ConsumesFrom end is ts s → Whole end is ts s ⊎ Halted end is ts s
went end [] ts s p =
    let e : s.rest ≡ ts = ap (λ (x : State). x.rest) p in
    inl (record { before = []; parts = sym e; matches = tt; is_live = p ∙ ap (live end) (sym e) })
went end (i ∷ is) [] s p =
    inr (record { before = []; pre = []; item = i; tail = is; parts = sym (ap (λ (x : State). x.rest) p.1); spelled = refl; matches = tt; filled = p.0; stop = inl p.1 })
went end (i ∷ is) (t ∷ ts) s (inl p) = went_on end i is t ts s p.0 (went end is ts s p.1)
went end (i ∷ is) (t ∷ ts) s (inr p) =
    inr (record { before = []; pre = []; item = i; tail = is; parts = sym (ap (λ (x : State). x.rest) p.2); spelled = refl; matches = tt; filled = p.0; stop = inr (t, ts, p.2) })

match_append : (is js : List Item) (ts us : List TokenShape) → Matches is ts → Matches js us → Matches (is ++ js) (ts ++ us)
match_append [] js [] us m k = k
match_append [] js (t ∷ ts) us m k = absurd m
match_append (i ∷ is) js [] us m k = absurd m
match_append (i ∷ is) js (t ∷ ts) us m k = (m.0, match_append is js ts us m.1 k)

-- items for a front of what matches
front_of : (is : List Item) (ts after : List TokenShape) → Matches is (ts ++ after) → (pre : List Item) × (tail : List Item) × (is ≡ pre ++ tail) × Matches pre ts
front_of is [] after m = ([], is, refl, tt)
front_of [] (t ∷ ts) after m = absurd m
front_of (i ∷ is) (t ∷ ts) after m =
    let r = front_of is ts after m.1 in
    (i ∷ r.0, r.1, ap (λ (x : List Item). i ∷ x) r.2, (m.0, r.3))

-- no text goes on with the token at which reading ends
pub none_goes_on : {A : Type 0} (f : Format A) → IsWhole f → (end : ℕ) (ts : List TokenShape) (t : TokenShape) (after : List TokenShape)
    → (f.read (live end (ts ++ t ∷ after))).1.rest ≡ t ∷ after → Begins f (ts ++ t ∷ []) → ⊥
none_goes_on f p end ts t after e b =
    let r = front_of (f.spell b.0) (ts ++ t ∷ []) b.1 b.2 in
    let h = p.greedy end b.0 r.0 r.1 (ts ++ t ∷ []) after r.2 r.3 in
    let k = ap (λ (y : List TokenShape). length (f.read (live end y)).1.rest) (append_assoc ts (t ∷ []) after) in
    let l = ap (λ (y : List TokenShape). length y) e in
    absurd (omega (arith, h, k, l))

-- ---- whole texts

-- a text of the format is read whole, and as this tree
pub is_read : {A : Type 0} (f : Format A) → IsWhole f → (end : ℕ) (x : A) (ts : List TokenShape) → Matches (f.spell x) ts → f.read (live end ts) ≡ (x, live end [])
is_read f p end x ts m = p.whole end x ts m

-- a text is spelled by one tree
pub is_only : {A : Type 0} (f : Format A) → IsWhole f → (end : ℕ) (ts : List TokenShape) (x y : A) (s : State) → (x, s) ≡ f.read (live end ts) → Matches (f.spell y) ts → x ≡ y
is_only f p end ts x y s e m = ap (λ z. z.0) (e ∙ is_read f p end y ts m)

-- a text of the format has no fault
pub no_fault : {A : Type 0} (f : Format A) → IsWhole f → (wanted : Class) (end : ℕ) (ts : List TokenShape) (x y : A) (s : State) (q : Stop)
    → (x, s) ≡ f.read (live end ts) → end_of wanted s ≡ Some q → Matches (f.spell y) ts → ⊥
unfolding end_of
no_fault f p wanted end ts x y s q e n m = absurd (cc (sym n ∙ ap (end_of wanted) (ap (λ z. z.1) (e ∙ is_read f p end y ts m))))

read_law : {A : Type 0} (f : Format A) → IsWhole f → (end : ℕ) (ts : List TokenShape) (x : A) (s : State) → (x, s) ≡ f.read (live end ts) → ConsumesFrom end (f.spell x) ts s
read_law f p end ts x s e = subst (λ y. ConsumesFrom end (f.spell y.0) ts y.1) (sym e) (p.reads (live end ts))

halted_end : (wanted : Class) (end : ℕ) (i : Item) (s : State) → ((s ≡ stopped (at_end end) end []) ⊎ ((t : TokenShape) × (after : List TokenShape) × (s ≡ stopped (at_token (class_of i) t) end (t ∷ after)))) → end_of wanted s ≡ None → ⊥
unfolding end_of
halted_end wanted end i s (inl e) n = absurd (cc (sym n ∙ ap (end_of wanted) e))
halted_end wanted end i s (inr r) n = absurd (cc (sym n ∙ ap (end_of wanted) r.2))

whole_text : {A : Type 0} (f : Format A) (wanted : Class) (end : ℕ) (ts : List TokenShape) (x : A) (before rest : List TokenShape) → ts ≡ before ++ rest → Matches (f.spell x) before → end_of wanted (live end rest) ≡ None → Matches (f.spell x) ts
unfolding end_of
whole_text f wanted end ts x before [] e m n = subst (λ (y : List TokenShape). Matches (f.spell x) y) (sym (append-nil before) ∙ sym e) m
whole_text f wanted end ts x before (t ∷ rest) e m n = absurd cc

-- what is read whole is a text of the format
pub is_found : {A : Type 0} (f : Format A) → IsWhole f → (wanted : Class) (end : ℕ) (ts : List TokenShape) (x : A) (s : State) → (x, s) ≡ f.read (live end ts) → end_of wanted s ≡ None → Matches (f.spell x) ts
is_found f p wanted end ts x s e n =
    elim (went end (f.spell x) ts s (read_law f p end ts x s e)) [
      | inl r ↦ whole_text f wanted end ts x r.before s.rest r.parts r.matches (ap (end_of wanted) (sym r.is_live) ∙ n)
      | inr r ↦ absurd (halted_end wanted end r.item s r.stop n)
    ]

rest_there : {A : Type 0} (f : Format A) (end : ℕ) (ts : List TokenShape) (x : A) (s : State) (before : List TokenShape) (t : TokenShape) (after : List TokenShape)
    → (x, s) ≡ f.read (live end ts) → ts ≡ before ++ s.rest → s.rest ≡ t ∷ after → (f.read (live end (before ++ t ∷ after))).1.rest ≡ t ∷ after
rest_there f end ts x s before t after e parts r =
    ap (λ (y : List TokenShape). (f.read (live end y)).1.rest) (ap (λ (y : List TokenShape). before ++ y) (sym r) ∙ sym parts) ∙ ap (λ y. y.1.rest) (sym e) ∙ r

fault_behind : {A : Type 0} (f : Format A) → IsWhole f → (wanted : Class) (end : ℕ) (ts : List TokenShape) (x : A) (s : State) (q : Stop) → (x, s) ≡ f.read (live end ts)
    → (before rest : List TokenShape) → ts ≡ before ++ s.rest → Matches (f.spell x) before → s ≡ live end rest → end_of wanted (live end rest) ≡ Some q → IsFault f wanted end ts q
unfolding end_of
fault_behind f p wanted end ts x s q e before [] parts m k n = absurd cc
fault_behind f p wanted end ts x s q e before (t ∷ after) parts m k n =
    let r : s.rest ≡ t ∷ after = ap (λ (y : State). y.rest) k in
    let is : at_token wanted t ≡ q = cc n in (
      before,
      t ∷ after,
      parts ∙ ap (λ (y : List TokenShape). before ++ y) r,
      (
        ap (λ (y : Stop). y.at) (sym is),
        (x, [], subst (λ (y : List TokenShape). Matches (f.spell x) y) (sym (append-nil before)) m),
        none_goes_on f p end before t after (rest_there f end ts x s before t after e parts r),
        inr (x, m, ap (λ (y : Stop). y.why) (sym is)),
      ),
    )

begins_there : {A : Type 0} (f : Format A) (x : A) (pre : List Item) (i : Item) (tail : List Item) (before : List TokenShape) → f.spell x ≡ pre ++ i ∷ tail → Matches pre before → Filled (i ∷ tail) → Begins f before
begins_there f x pre i tail before e m d =
    let r = any_for (i ∷ tail) d in
    (x, r.0, subst (λ is. Matches is (before ++ r.0)) (sym e) (match_append pre (i ∷ tail) before r.0 m r.1))

fault_at : {A : Type 0} (f : Format A) → IsWhole f → (wanted : Class) (end : ℕ) (ts : List TokenShape) (x : A) (s : State) (q : Stop) → (x, s) ≡ f.read (live end ts)
    → (before : List TokenShape) (pre : List Item) (i : Item) (tail : List Item) → ts ≡ before ++ s.rest → f.spell x ≡ pre ++ i ∷ tail → Matches pre before → Filled (i ∷ tail)
    → ((s ≡ stopped (at_end end) end []) ⊎ ((t : TokenShape) × (after : List TokenShape) × (s ≡ stopped (at_token (class_of i) t) end (t ∷ after)))) → end_of wanted s ≡ Some q → IsFault f wanted end ts q
unfolding end_of
fault_at f p wanted end ts x s q e before pre i tail parts spelled m d (inl k) n =
    let is : at_end end ≡ q = cc (ap (end_of wanted) (sym k) ∙ n) in
    (before, [], parts ∙ ap (λ (y : State). before ++ y.rest) k, (sym is, begins_there f x pre i tail before spelled m d))
fault_at f p wanted end ts x s q e before pre i tail parts spelled m d (inr k) n =
    let is : at_token (class_of i) k.0 ≡ q = cc (ap (end_of wanted) (sym k.2) ∙ n) in
    let r : s.rest ≡ k.0 ∷ k.1 = ap (λ (y : State). y.rest) k.2 in (
      before,
      k.0 ∷ k.1,
      parts ∙ ap (λ (y : List TokenShape). before ++ y) r,
      (
        ap (λ (y : Stop). y.at) (sym is),
        begins_there f x pre i tail before spelled m d,
        none_goes_on f p end before k.0 k.1 (rest_there f end ts x s before k.0 k.1 e parts r),
        inl (x, pre, i, tail, spelled, m, ap (λ (y : Stop). y.why) (sym is)),
      ),
    )

-- where reading stops there is a fault, and it is the first
pub is_fault : {A : Type 0} (f : Format A) → IsWhole f → (wanted : Class) (end : ℕ) (ts : List TokenShape) (x : A) (s : State) (q : Stop) → (x, s) ≡ f.read (live end ts) → end_of wanted s ≡ Some q → IsFault f wanted end ts q
is_fault f p wanted end ts x s q e n =
    elim (went end (f.spell x) ts s (read_law f p end ts x s e)) [
      | inl r ↦ fault_behind f p wanted end ts x s q e r.before s.rest r.parts r.matches r.is_live (ap (end_of wanted) (sym r.is_live) ∙ n)
      | inr r ↦ fault_at f p wanted end ts x s q e r.before r.pre r.item r.tail r.parts r.spelled r.matches r.filled r.stop n
    ]
