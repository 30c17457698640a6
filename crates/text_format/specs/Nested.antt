-- Lines with regions in them, as one flat list: a state says which line may come, and when the outermost region is closed.
use Rattle.std.specs.Prelude.{◌≡◌, ◌≤◌, ◌<◌, ℕ, zero, suc, Bool, true, false, List, [], ◌∷◌, ◌++◌, length, if◌then◌else◌, cond, Option, Some, None}
use Rattle.std.proofs.Common.{refl, sym, ap, subst, ◌∙◌, inl, inr, arith, length-append}
use Rattle.std.proofs.lemmas.Bool.{cond-true, cond-false}
use Rattle.text_format.specs.declared.lexeme.Lexeme.TheVariants.{Comma}
use Rattle.text_format.specs.declared.class.Class.TheVariants.{Exactly, Value}
use Rattle.text_format.specs.Token.{TokenShape}
use Rattle.text_format.specs.Classes.{fits, missing}
use Rattle.text_format.specs.Formats.{State, Stop, Item, Leaf, live, Format, onto}
use Rattle.text_format.specs.Laws.{Matches, Filled, ConsumesFrom, Consumes, IsExact}
use Rattle.text_format.specs.Exact.{nothing, one_then, split, fronts, none_read, forward_by, read_front}

pub record Nest (S A : Type 0) : Type 0 where
  -- the line that may come
  pub format : S → Format A
  pub next : A → S → S
  pub closed : S → Bool
  -- the lines that close what is open, with tokens that stand at a place
  pub fill : ℕ → S → List A

-- an item that no token is
abbrev pub never : Item
never = Leaf (Exactly Comma) (missing Value 0)

-- The last line closes the outermost region, and no line before it does: other lists are spelled by no tokens.
unfoldable pub spell_nest : {S A : Type 0} → Nest S A → S → List A → List Item
spell_nest n s [] = if n.closed s then [] else never ∷ []
spell_nest n s (x ∷ xs) = if n.closed s then never ∷ [] else (n.format s).spell x ++ spell_nest n (n.next x s) xs

abbrev pub by_stop : {R : Type 0} → Option Stop → (ℕ → R) → R → R
by_stop None stopped going = going
by_stop (Some p) stopped going = stopped p.at

-- how many lines may still be read
abbrev pub lines_by : Option Stop → List TokenShape → ℕ
lines_by None ts = suc (length ts)
lines_by (Some p) ts = 0

unfoldable pub nest_in : {S A : Type 0} → Nest S A → ℕ → S → State → List A × State
nest_in n zero s st = if n.closed s then ([], st) else by_stop st.stop (λ at. (n.fill at s, st)) ([], st)
nest_in n (suc k) s st =
    if n.closed s then ([], st)
    else by_stop st.stop (λ at. (n.fill at s, st)) (onto ((n.format s).read st).0 (nest_in n k (n.next ((n.format s).read st).0 s) ((n.format s).read st).1))

-- lines up to the one that closes the outermost region
abbrev pub nested : {S A : Type 0} → Nest S A → S → Format (List A)
nested n s = record { spell = spell_nest n s; read = λ st. nest_in n (lines_by st.stop st.rest) s st }

-- each line is exact and takes a token, and the lines that close are spelled by some tokens
pub record IsNest {S A : Type 0} (n : Nest S A) : Type 0 where
  pub exact : (s : S) → IsExact (n.format s)
  pub some : (s : S) (x : A) → (i : Item) × (is : List Item) × ((n.format s).spell x ≡ i ∷ is)
  pub filled : (at : ℕ) (s : S) → n.closed s ≡ false → Filled (spell_nest n s (n.fill at s))

-- ---- spelling

no_token : (is : List Item) (ts : List TokenShape) → Matches (never ∷ is) ts → ⊥
no_token is [] m = absurd m
no_token is (t ∷ ts) m = absurd (cc (sym m.0.0 ∙ ap (λ (u : TokenShape). fits (Exactly Comma) u) m.0.1))

spelled_closed : {S A : Type 0} (n : Nest S A) (s : S) → n.closed s ≡ true → spell_nest n s [] ≡ []
unfolding spell_nest
spelled_closed n s e = cond-true (n.closed s) _ _ e

spelled_open : {S A : Type 0} (n : Nest S A) (s : S) → n.closed s ≡ false → spell_nest n s [] ≡ never ∷ []
unfolding spell_nest
spelled_open n s e = cond-false (n.closed s) _ _ e

spelled_after : {S A : Type 0} (n : Nest S A) (s : S) (x : A) (xs : List A) → n.closed s ≡ true → spell_nest n s (x ∷ xs) ≡ never ∷ []
unfolding spell_nest
spelled_after n s x xs e = cond-true (n.closed s) _ _ e

spelled_line : {S A : Type 0} (n : Nest S A) (s : S) (x : A) (xs : List A) → n.closed s ≡ false → spell_nest n s (x ∷ xs) ≡ (n.format s).spell x ++ spell_nest n (n.next x s) xs
unfolding spell_nest
spelled_line n s x xs e = cond-false (n.closed s) _ _ e

-- ---- what is read is spelled so

lines_from : (end : ℕ) (is : List Item) (ts : List TokenShape) (new : State) → ConsumesFrom end is ts new → lines_by new.stop new.rest ≤ suc (length ts)
lines_from end [] ts new p = rw p (omega arith)
lines_from end (i ∷ is) [] new p = rw p.1 (omega arith)
lines_from end (i ∷ is) (t ∷ ts) new (inl p) = let h = lines_from end is ts new p.1 in omega (arith, h)
lines_from end (i ∷ is) (t ∷ ts) new (inr p) = rw p.2 (omega arith)

fewer_from : (end : ℕ) (i : Item) (is : List Item) (ts : List TokenShape) (new : State) → ConsumesFrom end (i ∷ is) ts new → lines_by new.stop new.rest < suc (length ts)
fewer_from end i is [] new p = rw p.1 (omega arith)
fewer_from end i is (t ∷ ts) new (inl p) = let h = lines_from end is ts new p.1 in omega (arith, h)
fewer_from end i is (t ∷ ts) new (inr p) = rw p.2 (omega arith)

fewer : {S A : Type 0} (n : Nest S A) → IsNest n → (s : S) (end : ℕ) (ts : List TokenShape) → let r = (n.format s).read (live end ts) in lines_by r.1.stop r.1.rest < suc (length ts)
fewer n p s end ts =
    let r = (n.format s).read (live end ts) in
    let k = p.some s r.0 in
    fewer_from end k.0 k.1 ts r.1 (subst (λ is. ConsumesFrom end is ts r.1) k.2 ((p.exact s).reads (live end ts)))

stopped_reads : {S A : Type 0} (n : Nest S A) → IsNest n → (s : S) (b : Bool) (o : Option Stop) (end : ℕ) (ts : List TokenShape) (going : List A × State) → n.closed s ≡ b
    → let st : State = record { rest = ts; stop = o; end = end } in
    (b ≡ false → o ≡ None → Consumes (spell_nest n s going.0) st going.1)
    → let y : List A × State = cond b ([], st) (by_stop o (λ at. (n.fill at s, st)) going) in Consumes (spell_nest n s y.0) st y.1
stopped_reads n p s true o end ts going e h = let st : State = record { rest = ts; stop = o; end = end } in subst (λ is. Consumes is st st) (sym (spelled_closed n s e)) (nothing o end ts)
stopped_reads n p s false None end ts going e h = h refl refl
stopped_reads n p s false (Some q) end ts going e h = (p.filled q.at s e, refl)

nest_reads : {S A : Type 0} (n : Nest S A) → IsNest n → (k : ℕ) (s : S) (o : Option Stop) (end : ℕ) (ts : List TokenShape) → lines_by o ts ≤ k
    → let st : State = record { rest = ts; stop = o; end = end } in Consumes (spell_nest n s (nest_in n k s st).0) st (nest_in n k s st).1
unfolding nest_in
nest_reads n p zero s None end ts le = absurd (omega (arith, le))
nest_reads n p zero s (Some q) end ts le = stopped_reads n p s (n.closed s) (Some q) end ts ([], record { rest = ts; stop = Some q; end = end }) refl (λ e h. absurd cc)
nest_reads n p (suc k) s (Some q) end ts le =
    let r = (n.format s).read (record { rest = ts; stop = Some q; end = end }) in
    stopped_reads n p s (n.closed s) (Some q) end ts (onto r.0 (nest_in n k (n.next r.0 s) r.1)) refl (λ e h. absurd cc)
nest_reads n p (suc k) s None end ts le =
    let r = (n.format s).read (live end ts) in
    let rest = nest_in n k (n.next r.0 s) r.1 in
    stopped_reads n p s (n.closed s) None end ts (onto r.0 rest) refl (λ e h.
    let f = fewer n p s end ts in
    let more = nest_reads n p k (n.next r.0 s) r.1.stop r.1.end r.1.rest (omega (arith, f, le)) in
    subst (λ is. Consumes is (live end ts) rest.1) (sym (spelled_line n s r.0 rest.0 e)) (one_then ((n.format s).spell r.0) (spell_nest n (n.next r.0 s) rest.0) (live end ts) r.1 rest.1 ((p.exact s).reads (live end ts)) more))

-- ---- what is spelled so is read

nest_closed : {S A : Type 0} (n : Nest S A) (k : ℕ) (s : S) (st : State) → n.closed s ≡ true → nest_in n k s st ≡ ([], st)
unfolding nest_in
nest_closed n zero s st e = cond-true (n.closed s) _ _ e
nest_closed n (suc k) s st e = cond-true (n.closed s) _ _ e

nest_line : {S A : Type 0} (n : Nest S A) (k : ℕ) (s : S) (end : ℕ) (ts : List TokenShape) → n.closed s ≡ false
    → let r = (n.format s).read (live end ts) in nest_in n (suc k) s (live end ts) ≡ onto r.0 (nest_in n k (n.next r.0 s) r.1)
unfolding nest_in
nest_line n k s end ts e = cond-false (n.closed s) _ _ e

takes : {S A : Type 0} (n : Nest S A) → IsNest n → (s : S) (x : A) (ts : List TokenShape) → Matches ((n.format s).spell x) ts → 0 < length ts
takes n p s x [] m = let k = p.some s x in absurd (subst (λ is. Matches is []) k.2 m)
takes n p s x (t ∷ ts) m = omega arith

nest_again : {S A : Type 0} (n : Nest S A) → IsNest n → (end : ℕ) (xs : List A) (s : S) (ts rest : List TokenShape) (k : ℕ) (b : Bool) → n.closed s ≡ b → Matches (spell_nest n s xs) ts → length ts ≤ k → nest_in n k s (live end (ts ++ rest)) ≡ (xs, live end rest)
nest_again n p end [] s ts rest k false e m le = absurd (no_token [] ts (subst (λ is. Matches is ts) (spelled_open n s e) m))
nest_again n p end [] s ts rest k true e m le =
    let none = none_read ts (subst (λ is. Matches is ts) (spelled_closed n s e) m) in
    nest_closed n k s (live end (ts ++ rest)) e ∙ ap (λ (y : List TokenShape). ([], live end (y ++ rest))) none
nest_again n p end (x ∷ xs) s ts rest k true e m le = absurd (no_token [] ts (subst (λ is. Matches is ts) (spelled_after n s x xs e) m))
nest_again n p end (x ∷ xs) s ts rest zero false e m le =
    let r = split ((n.format s).spell x) (spell_nest n (n.next x s) xs) ts (subst (λ is. Matches is ts) (spelled_line n s x xs e) m) in
    let h = takes n p s x r.0 r.3 in
    absurd (omega (arith, h, le, length-append r.0 r.1, ap length r.2))
nest_again n p end (x ∷ xs) s ts rest (suc k) false e m le =
    let r = split ((n.format s).spell x) (spell_nest n (n.next x s) xs) ts (subst (λ is. Matches is ts) (spelled_line n s x xs e) m) in
    let h = takes n p s x r.0 r.3 in
    let one = read_front (n.format s) (p.exact s) end x r.0 r.1 ts rest r.2 r.3 in
    let others = nest_again n p end xs (n.next x s) r.1 rest k (n.closed (n.next x s)) refl r.4 (omega (arith, h, le, length-append r.0 r.1, ap length r.2)) in
    nest_line n k s end (ts ++ rest) e ∙ ap (λ y. onto y.0 (nest_in n k (n.next y.0 s) y.1)) one ∙ ap (onto x) others

-- ---- a front of what is spelled is read

nest_forward : {S A : Type 0} (n : Nest S A) → IsNest n → (k : ℕ) (s : S) (st : State) → lines_by st.stop st.rest ≤ k → length (nest_in n k s st).1.rest ≤ length st.rest
nest_forward n p k s st le = forward_by st.stop st.end (spell_nest n s (nest_in n k s st).0) st.rest (nest_in n k s st).1 (nest_reads n p k s st.stop st.end st.rest le)

nest_greedy : {S A : Type 0} (n : Nest S A) → IsNest n → (end : ℕ) (xs : List A) (s : S) (pre tail : List Item) (ts rest : List TokenShape) (k : ℕ) (b : Bool) → n.closed s ≡ b → spell_nest n s xs ≡ pre ++ tail → Matches pre ts → suc (length (ts ++ rest)) ≤ k
    → length (nest_in n k s (live end (ts ++ rest))).1.rest ≤ length rest
nest_greedy n p end xs s [] tail ts rest k b e eq m le =
    let h = nest_forward n p k s (live end (ts ++ rest)) le in
    omega (arith, h, ap (λ (y : List TokenShape). length (y ++ rest)) (none_read ts m))
nest_greedy n p end xs s (i ∷ pre) tail [] rest k b e eq m le = absurd m
nest_greedy n p end [] s (i ∷ pre) tail (t ∷ ts) rest k true e eq m le = absurd (cc (sym (spelled_closed n s e) ∙ eq))
nest_greedy n p end [] s (i ∷ pre) tail (t ∷ ts) rest k false e eq m le =
    let h : never ≡ i = cc (sym (spelled_open n s e) ∙ eq) in
    absurd (no_token pre (t ∷ ts) (subst (λ j. Matches (j ∷ pre) (t ∷ ts)) (sym h) m))
nest_greedy n p end (x ∷ xs) s (i ∷ pre) tail (t ∷ ts) rest k true e eq m le =
    let h : never ≡ i = cc (sym (spelled_after n s x xs e) ∙ eq) in
    absurd (no_token pre (t ∷ ts) (subst (λ j. Matches (j ∷ pre) (t ∷ ts)) (sym h) m))
nest_greedy n p end (x ∷ xs) s (i ∷ pre) tail (t ∷ ts) rest zero false e eq m le = absurd (omega (arith, le))
nest_greedy n p end (x ∷ xs) s (i ∷ pre) tail (t ∷ ts) rest (suc k) false e eq m le =
    let line = (n.format s).read (live end (t ∷ (ts ++ rest))) in
    let once = ap (λ y. length y.1.rest) (nest_line n k s end (t ∷ (ts ++ rest)) e) in
    elim (fronts ((n.format s).spell x) (spell_nest n (n.next x s) xs) (i ∷ pre) tail (sym (spelled_line n s x xs e) ∙ eq)) [
      | inl r ↦
          let a = (p.exact s).greedy end x (i ∷ pre) r.0 (t ∷ ts) rest r.1 m in
          let f = fewer n p s end (t ∷ (ts ++ rest)) in
          let b = nest_forward n p k (n.next line.0 s) line.1 (omega (arith, f, le)) in
          omega (arith, a, b, once)
      | inr r ↦
          let q = split ((n.format s).spell x) r.0 (t ∷ ts) (subst (λ is. Matches is (t ∷ ts)) r.1 m) in
          let h = takes n p s x q.0 q.3 in
          let one = ap (λ y. length (nest_in n k (n.next y.0 s) y.1).1.rest) (read_front (n.format s) (p.exact s) end x q.0 q.1 (t ∷ ts) rest q.2 q.3) in
          let le2 : suc (length (q.1 ++ rest)) ≤ k = omega (arith, le, h, length-append q.0 q.1, length-append q.1 rest, length-append ts rest, ap length q.2) in
          let a = nest_greedy n p end xs (n.next x s) r.0 tail q.1 rest k (n.closed (n.next x s)) refl r.2 q.4 le2 in
          omega (arith, a, once, one)
    ]

pub nested-exact : {S A : Type 0} (n : Nest S A) → IsNest n → (s : S) → IsExact (nested n s)
nested-exact n p s = record {
  reads = λ st. nest_reads n p (lines_by st.stop st.rest) s st.stop st.end st.rest (omega arith);
  again = λ end xs ts rest m. nest_again n p end xs s ts rest (suc (length (ts ++ rest))) (n.closed s) refl m (omega (arith, length-append ts rest));
  greedy = λ end xs pre tail ts rest e m. nest_greedy n p end xs s pre tail ts rest (suc (length (ts ++ rest))) (n.closed s) refl e m (omega arith);
}
