-- The laws of formats that repeat: many, optional ones, and lists.
use Rattle.std.specs.Prelude.{◌≡◌, ◌≤◌, ◌<◌, ℕ, zero, suc, Bool, true, false, List, [], ◌∷◌, ◌++◌, length, ◌⊎◌, cond, Option, Some, None}
use Rattle.std.proofs.Common.{refl, sym, ap, subst, ◌∙◌, inl, inr, append_assoc, arith, length-append}
use Rattle.std.proofs.lemmas.Bool.{cases_Bool, cond-true, cond-false}
use Rattle.text_format.specs.declared.lexeme.Lexeme.{Lexeme}
use Rattle.text_format.specs.declared.lexeme.Lexeme.TheVariants.{Comma}
use Rattle.text_format.specs.declared.class.Class.{Class}
use Rattle.text_format.specs.declared.class.Class.TheVariants.{Exactly}
use Rattle.text_format.specs.Token.{TokenShape}
use Rattle.text_format.specs.Classes.{missing}
use Rattle.text_format.specs.Formats.{State, Stop, Item, Fixed, Leaf, live, leaf, sees_by, sees, Format, only, ◌⊗◌, as_record, ◌▸◌, spell_either, first_read, second_read, either, spell_some, some_read, optional_at, optional, spell_many, onto, many_in, weight_by, weight, many_at, many, others_before, list_made, list_parts, list_before, others_with, closed_made, closed_parts, list_with_close}
use Rattle.text_format.specs.Laws.{Matches, ConsumesFrom, ConsumesBy, Consumes, Reads, IsExact, begins, avoids}
use Rattle.text_format.specs.Apart.{fixed_fits, begins_sees, avoids_sees, nonempty, avoids_front}
use Rattle.text_format.specs.Exact.{nothing, one_then, split, fronts, none_read, forward_by, goes_forward, read_front, only-exact, leaf-exact, ◌⊠◌, ◌▹◌, record-exact, either-exact}

-- ---- reading an item takes a token

weight_from : (end : ℕ) (is : List Item) (ts : List TokenShape) (new : State) → ConsumesFrom end is ts new → weight new ≤ length ts
weight_from end [] ts new p = rw p (omega arith)
weight_from end (i ∷ is) [] new p = rw p.1 (omega arith)
weight_from end (i ∷ is) (t ∷ ts) new (inl p) = let h = weight_from end is ts new p.1 in omega (arith, h)
weight_from end (i ∷ is) (t ∷ ts) new (inr p) = rw p.2 (omega arith)

lighter_from : (c : Class) (end : ℕ) (is : List Item) (t : TokenShape) (ts : List TokenShape) (new : State) → begins c is ≡ true → ConsumesFrom end is (t ∷ ts) new → weight new < suc (length ts)
lighter_from c end [] t ts new b p = absurd cc
lighter_from c end (i ∷ is) t ts new b (inl p) = let h = weight_from end is ts new p.1 in omega (arith, h)
lighter_from c end (i ∷ is) t ts new b (inr p) = rw p.2 (omega arith)

lighter_by : (o : Option Stop) (c : Class) (end : ℕ) (is : List Item) (ts : List TokenShape) (new : State) → begins c is ≡ true → sees_by o c ts ≡ true → ConsumesBy o end is ts new → weight new < weight_by o ts
lighter_by (Some x) c end is ts new b e p = absurd cc
lighter_by None c end is [] new b e p = absurd cc
lighter_by None c end is (t ∷ ts) new b e p = lighter_from c end is t ts new b p

pub lighter : {A : Type 0} (f : Format A) → Reads f → (c : Class) → ((x : A) → begins c (f.spell x) ≡ true) → (s : State) → sees c s ≡ true → weight (f.read s).1 < weight s
unfolding sees
lighter f p c first s e = lighter_by s.stop c s.end (f.spell (f.read s).0) s.rest (f.read s).1 (first (f.read s).0) e (p s)

-- ---- many

many_step : {A : Type 0} (f : Format A) (s mid : State) (x : A) (r : List A × State) (b : Bool)
    → Consumes (f.spell x) s mid → Consumes (spell_many f r.0) mid r.1
    → let y : List A × State = cond b (onto x r) ([], s) in Consumes (spell_many f y.0) s y.1
many_step f s mid x r true p q = one_then (f.spell x) (spell_many f r.0) s mid r.1 p q
many_step f s mid x r false p q = nothing s.stop s.end s.rest

pub many_reads : {A : Type 0} (f : Format A) → Reads f → (c : Class) (n : ℕ) (s : State) → Consumes (spell_many f (many_in c f n s).0) s (many_in c f n s).1
unfolding many_in
many_reads f p c zero s = nothing s.stop s.end s.rest
many_reads f p c (suc n) s =
    let r = f.read s in
    many_step f s r.1 r.0 (many_in c f n r.1) (sees c s) (p s) (many_reads f p c n r.1)

pub many_none : {A : Type 0} (f : Format A) (c : Class) (n : ℕ) (s : State) → sees c s ≡ false → many_in c f n s ≡ ([], s)
unfolding many_in
many_none f c zero s e = refl
many_none f c (suc n) s e = cond-false (sees c s) _ _ e

pub many_once : {A : Type 0} (f : Format A) (c : Class) (n : ℕ) (s : State) → sees c s ≡ true → many_in c f (suc n) s ≡ onto (f.read s).0 (many_in c f n (f.read s).1)
unfolding many_in
many_once f c n s e = cond-true (sees c s) _ _ e

any_step : {A : Type 0} (s : State) (b : Bool) (x : A) (r q : List A × State) → (b ≡ true → r ≡ q) → cond b (onto x r) ([], s) ≡ cond b (onto x q) ([], s)
any_step s true x r q e = ap (onto x) (e refl)
any_step s false x r q e = refl

-- enough is enough
pub many_any : {A : Type 0} (f : Format A) → Reads f → (c : Class) → ((x : A) → begins c (f.spell x) ≡ true) → (n m : ℕ) (s : State) → weight s ≤ n → weight s ≤ m → many_in c f n s ≡ many_in c f m s
unfolding many_in
many_any f p c first zero m s a b =
    elim (cases_Bool (sees c s)) [
      | inl e ↦ let h = lighter f p c first s e in absurd (omega (arith, h, a))
      | inr e ↦ sym (many_none f c m s e)
    ]
many_any f p c first (suc n) zero s a b =
    elim (cases_Bool (sees c s)) [
      | inl e ↦ let h = lighter f p c first s e in absurd (omega (arith, h, b))
      | inr e ↦ many_none f c (suc n) s e
    ]
many_any f p c first (suc n) (suc m) s a b =
    let r = f.read s in
    any_step s (sees c s) r.0 (many_in c f n r.1) (many_in c f m r.1) (λ e.
    let h = lighter f p c first s e in
    many_any f p c first n m r.1 (omega (arith, h, a)) (omega (arith, h, b)))

pub many_again : {A : Type 0} (f : Format A) → IsExact f → (c : Class) → ((x : A) → begins c (f.spell x) ≡ true)
    → (end : ℕ) (xs : List A) (ts rest : List TokenShape) (n : ℕ) → Matches (spell_many f xs) ts → length ts ≤ n → sees c (live end rest) ≡ false → many_in c f n (live end (ts ++ rest)) ≡ (xs, live end rest)
many_again f p c first end [] [] rest n m le e = many_none f c n (live end rest) e
many_again f p c first end [] (t ∷ ts) rest n m le e = absurd m
many_again f p c first end (x ∷ xs) ts rest zero m le e =
    let r = split (f.spell x) (spell_many f xs) ts m in
    let k = nonempty c (f.spell x) r.0 (first x) r.3 in
    absurd (omega (arith, k, le, length-append r.0 r.1, ap length r.2))
many_again f p c first end (x ∷ xs) ts rest (suc n) m le e =
    let r = split (f.spell x) (spell_many f xs) ts m in
    let k = nonempty c (f.spell x) r.0 (first x) r.3 in
    let one = read_front f p end x r.0 r.1 ts rest r.2 r.3 in
    let yes : sees c (live end (ts ++ rest)) ≡ true =
    ap (λ (y : List TokenShape). sees c (live end (y ++ rest))) r.2 ∙ ap (λ (y : List TokenShape). sees c (live end y)) (append_assoc r.0 r.1 rest) ∙ begins_sees c end (f.spell x) r.0 (r.1 ++ rest) (first x) r.3 in
    let others = many_again f p c first end xs r.1 rest n r.4 (omega (arith, k, le, length-append r.0 r.1, ap length r.2)) e in
    many_once f c n (live end (ts ++ rest)) yes ∙ ap (λ y. onto y.0 (many_in c f n y.1)) one ∙ ap (onto x) others

pub many_forward : {A : Type 0} (f : Format A) → Reads f → (c : Class) (n : ℕ) (s : State) → length (many_in c f n s).1.rest ≤ length s.rest
many_forward f p c n s = forward_by s.stop s.end (spell_many f (many_in c f n s).0) s.rest (many_in c f n s).1 (many_reads f p c n s)

pub first_begins : (c : Class) (is ys : List Item) (i : Item) (pre tail : List Item) → begins c is ≡ true → is ++ ys ≡ i ∷ (pre ++ tail) → begins c (i ∷ pre) ≡ true
first_begins c [] ys i pre tail b e = absurd cc
first_begins c (Fixed l ∷ is) ys i pre tail b e = let h : Fixed l ≡ i = cc in subst (λ (j : Item). begins c (j ∷ pre) ≡ true) h b
first_begins c (Leaf d u ∷ is) ys i pre tail b e = let h : Leaf d u ≡ i = cc in subst (λ (j : Item). begins c (j ∷ pre) ≡ true) h b

-- what is left behind the items and g
abbrev pub left : {A B : Type 0} → Format B → List A × State → ℕ
left g r = length (g.read r.1).1.rest

many_greedy : {A B : Type 0} (f : Format A) (g : Format B) → IsExact f → IsExact g → (c : Class) → ((x : A) → begins c (f.spell x) ≡ true) → ((y : B) → avoids c (g.spell y) ≡ true)
    → (end : ℕ) (xs : List A) (y : B) (pre tail : List Item) (ts rest : List TokenShape) (n : ℕ) → spell_many f xs ++ g.spell y ≡ pre ++ tail → Matches pre ts → length ts ≤ n
    → left g (many_in c f n (live end (ts ++ rest))) ≤ length rest
many_greedy f g p q c first other end xs y [] tail ts rest n e m le =
    let h = many_forward f p.reads c n (live end (ts ++ rest)) in
    let k = goes_forward g q (many_in c f n (live end (ts ++ rest))).1 in
    omega (arith, h, k, ap (λ (y : List TokenShape). length (y ++ rest)) (none_read ts m))
many_greedy f g p q c first other end xs y (i ∷ pre) tail [] rest n e m le = absurd m
many_greedy f g p q c first other end [] y (i ∷ pre) tail (t ∷ ts) rest n e m le =
    let b = subst (λ is. avoids c is ≡ true) e (other y) in
    let no = avoids_sees c end (i ∷ pre) (t ∷ ts) rest (avoids_front c i pre tail b) m in
    let k = ap (left g) (many_none f c n (live end (t ∷ (ts ++ rest))) no) in
    let h = q.greedy end y (i ∷ pre) tail (t ∷ ts) rest e m in
    omega (arith, h, k)
many_greedy f g p q c first other end (x ∷ xs) y (i ∷ pre) tail (t ∷ ts) rest zero e m le = absurd (omega arith)
many_greedy f g p q c first other end (x ∷ xs) y (i ∷ pre) tail (t ∷ ts) rest (suc n) e m le =
    let k2 : f.spell x ++ (spell_many f xs ++ g.spell y) ≡ i ∷ (pre ++ tail) = sym (append_assoc (f.spell x) (spell_many f xs) (g.spell y)) ∙ e in
    let yes = begins_sees c end (i ∷ pre) (t ∷ ts) rest (first_begins c (f.spell x) (spell_many f xs ++ g.spell y) i pre tail (first x) k2) m in
    let once = ap (left g) (many_once f c n (live end (t ∷ (ts ++ rest))) yes) in
    let mid = (f.read (live end (t ∷ (ts ++ rest)))).1 in
    elim (fronts (f.spell x) (spell_many f xs ++ g.spell y) (i ∷ pre) tail k2) [
      | inl r ↦
          let a = p.greedy end x (i ∷ pre) r.0 (t ∷ ts) rest r.1 m in
          let b = many_forward f p.reads c n mid in
          let d = goes_forward g q (many_in c f n mid).1 in
          omega (arith, a, b, d, once)
      | inr r ↦
          let s = split (f.spell x) r.0 (t ∷ ts) (subst (λ is. Matches is (t ∷ ts)) r.1 m) in
          let one = ap (λ y. left g (many_in c f n y.1)) (read_front f p end x s.0 s.1 (t ∷ ts) rest s.2 s.3) in
          let d = nonempty c (f.spell x) s.0 (first x) s.3 in
          let le2 : length s.1 ≤ n = omega (arith, le, d, length-append s.0 s.1, ap length s.2) in
          let a = many_greedy f g p q c first other end xs y r.0 tail s.1 rest n r.2 s.4 le2 in
          omega (arith, a, once, one)
    ]

many_front : {A B : Type 0} (f : Format A) (g : Format B) → IsExact f → IsExact g → (c : Class) → ((x : A) → begins c (f.spell x) ≡ true) → ((y : B) → avoids c (g.spell y) ≡ true)
    → (end : ℕ) (x : List A × B) (a b ts rest : List TokenShape) → ts ≡ a ++ b → Matches (spell_many f x.0) a → Matches (g.spell x.1) b → (many c f g).read (live end (ts ++ rest)) ≡ (x, live end rest)
many_front f g p q c first other end x a b ts rest e m k =
    let no = avoids_sees c end (g.spell x.1) b rest (other x.1) k in
    let le : length a ≤ length (ts ++ rest) = omega (arith, length-append ts rest, length-append a b, ap length e) in
    let got : many_at c f (live end (ts ++ rest)) ≡ (x.0, live end (b ++ rest)) =
    ap (λ (y : List TokenShape). many_in c f (length (ts ++ rest)) (live end (y ++ rest))) e
    ∙ ap (λ (y : List TokenShape). many_in c f (length (ts ++ rest)) (live end y)) (append_assoc a b rest)
    ∙ many_again f p c first end x.0 a (b ++ rest) (length (ts ++ rest)) m le no in
    ap (λ y. ((y.0, (g.read y.1).0), (g.read y.1).1)) got ∙ ap (λ y. ((x.0, y.0), y.1)) (q.again end x.1 b rest k)

pub many-exact : {A B : Type 0} (c : Class) {f : Format A} {g : Format B} → IsExact f → IsExact g → ((x : A) → begins c (f.spell x) ≡ true) → ((y : B) → avoids c (g.spell y) ≡ true) → IsExact (many c f g)
many-exact c {f} {g} p q first other = record {
  reads = λ s. one_then (spell_many f (many_at c f s).0) (g.spell (g.read (many_at c f s).1).0) s (many_at c f s).1 (g.read (many_at c f s).1).1 (many_reads f p.reads c (weight s) s) (q.reads (many_at c f s).1);
  again = λ end x ts rest m.
      let r = split (spell_many f x.0) (g.spell x.1) ts m in
      many_front f g p q c first other end x r.0 r.1 ts rest r.2 r.3 r.4;
  greedy = λ end x pre tail ts rest e m. many_greedy f g p q c first other end x.0 x.1 pre tail ts rest (length (ts ++ rest)) e m (omega (arith, length-append ts rest));
}

-- ---- optional

same-exact : {A : Type 0} (f g : Format A) → ((x : A) → f.spell x ≡ g.spell x) → ((s : State) → f.read s ≡ g.read s) → IsExact g → IsExact f
same-exact f g spells reads q = record {
  reads = λ s. subst (λ r. Consumes (f.spell r.0) s r.1) (sym (reads s)) (subst (λ is. Consumes is s (g.read s).1) (sym (spells (g.read s).0)) (q.reads s));
  again = λ end x ts rest m. reads (live end (ts ++ rest)) ∙ q.again end x ts rest (subst (λ is. Matches is ts) (spells x) m);
  greedy = λ end x pre tail ts rest e m.
      let h = q.greedy end x pre tail ts rest (sym (spells x) ∙ e) m in
      let k = ap (λ y. length y.1.rest) (reads (live end (ts ++ rest))) in
      omega (arith, h, k);
}

abbrev some_made : {A B : Type 0} → (A × B) ⊎ B → Option A × B
some_made (inl x) = (Some x.0, x.1)
some_made (inr y) = (None, y)

abbrev some_in : {A B : Type 0} → Option A → B → (A × B) ⊎ B
some_in None y = inr y
some_in (Some x) y = inl (x, y)

some_back : {A B : Type 0} (z : (A × B) ⊎ B) → some_in (some_made z).0 (some_made z).1 ≡ z
some_back (inl x) = refl
some_back (inr y) = refl

some_forth : {A B : Type 0} (o : Option A) (y : B) → some_made (some_in o y) ≡ (o, y)
some_forth None y = refl
some_forth (Some x) y = refl

some_spelled : {A B : Type 0} (f : Format A) (g : Format B) (o : Option A) (y : B) → spell_some f o ++ g.spell y ≡ spell_either (f ⊗ g) g (some_in o y)
some_spelled f g None y = refl
some_spelled f g (Some x) y = refl

some_step : {A B : Type 0} (f : Format A) (g : Format B) (s : State) (b : Bool)
    → let o : Option A × State = cond b (some_read (f.read s)) (None, s) in
    let z : ((A × B) ⊎ B) × State = cond b (first_read ((f ⊗ g).read s)) (second_read (g.read s)) in
    ◌≡◌ {A = (Option A × B) × State} ((o.0, (g.read o.1).0), (g.read o.1).1) (some_made z.0, z.1)
some_step f g s true = refl
some_step f g s false = refl

some_reads : {A B : Type 0} (c : Class) (f : Format A) (g : Format B) (s : State) → (optional c f g).read s ≡ (as_record some_made (λ x. some_in x.0 x.1) (either c (f ⊗ g) g)).read s
unfolding optional_at
some_reads c f g s = some_step f g s (sees c s)

pub begins_append : (c : Class) (is js : List Item) → begins c is ≡ true → begins c (is ++ js) ≡ true
begins_append c [] js e = absurd cc
begins_append c (Fixed l ∷ is) js e = e
begins_append c (Leaf d u ∷ is) js e = e

pub avoids_append : (c : Class) (is js : List Item) → avoids c is ≡ true → avoids c (is ++ js) ≡ true
avoids_append c [] js e = absurd cc
avoids_append c (Fixed l ∷ is) js e = e
avoids_append c (Leaf d u ∷ is) js e = e

pub optional-exact : {A B : Type 0} (c : Class) {f : Format A} {g : Format B} → IsExact f → IsExact g → ((x : A) → begins c (f.spell x) ≡ true) → ((y : B) → avoids c (g.spell y) ≡ true) → IsExact (optional c f g)
optional-exact c {f} {g} p q first other =
    same-exact (optional c f g) (as_record some_made (λ x. some_in x.0 x.1) (either c (f ⊗ g) g)) (λ x. some_spelled f g x.0 x.1) (some_reads c f g)
    (record-exact some_made (λ x. some_in x.0 x.1) (either c (f ⊗ g) g) some_back (λ x. some_forth x.0 x.1)
    (either-exact c (p ⊠ q) q (λ x. begins_append c (f.spell x.0) (g.spell x.1) (first x.0)) other))

-- ---- lists

pub others-exact : {A : Type 0} (close : Lexeme) {f : Format A} → IsExact f → avoids (Exactly Comma) (Fixed close ∷ []) ≡ true → IsExact (others_before close f)
others-exact close {f} p apart =
    record-exact (λ x. x.0) (λ xs. (xs, tt)) (many (Exactly Comma) (Comma ▸ f) (only close)) (λ x. refl) (λ xs. refl)
    (many-exact (Exactly Comma) (Comma ▹ p) (only-exact close) (λ x. refl) (λ y. apart))

list_back : {A : Type 0} (z : Unit {0} ⊎ (A × List A)) → list_parts (list_made z) ≡ z
list_back (inl u) = refl
list_back (inr x) = refl

list_forth : {A : Type 0} (xs : List A) → list_made (list_parts xs) ≡ xs
list_forth [] = refl
list_forth (x ∷ xs) = refl

pub list-exact : {A : Type 0} (close : Lexeme) {f : Format A} → IsExact f → ((x : A) → avoids (Exactly close) (f.spell x) ≡ true) → avoids (Exactly Comma) (Fixed close ∷ []) ≡ true → IsExact (list_before close f)
unfolding list_before
list-exact close {f} p first apart =
    record-exact list_made list_parts (either (Exactly close) (only close) (f ⊗ others_before close f)) list_back list_forth
    (either-exact (Exactly close) (only-exact close) (p ⊠ others-exact close p apart) (λ u. fixed_fits close (missing (Exactly close) 0) (refl, refl)) (λ x. avoids_append (Exactly close) (f.spell x.0) ((others_before close f).spell x.1) (first x.0)))

closed_back : {A : Type 0} (z : TokenShape ⊎ (A × (List A × TokenShape))) → closed_parts (closed_made z).0 (closed_made z).1 ≡ z
closed_back (inl t) = refl
closed_back (inr x) = refl

closed_forth : {A : Type 0} (xs : List A) (t : TokenShape) → closed_made (closed_parts xs t) ≡ (xs, t)
closed_forth [] t = refl
closed_forth (x ∷ xs) t = refl

pub list_with_close-exact : {A : Type 0} (close : Lexeme) {f : Format A} → IsExact f → ((x : A) → avoids (Exactly close) (f.spell x) ≡ true) → avoids (Exactly Comma) (Fixed close ∷ []) ≡ true → IsExact (list_with_close close f)
unfolding list_with_close
list_with_close-exact close {f} p first apart =
    record-exact closed_made (λ y. closed_parts y.0 y.1) (either (Exactly close) (leaf (Exactly close)) (f ⊗ others_with close f)) closed_back (λ y. closed_forth y.0 y.1)
    (either-exact (Exactly close) (leaf-exact (Exactly close)) (p ⊠ many-exact (Exactly Comma) (Comma ▹ p) (leaf-exact (Exactly close)) (λ x. refl) (λ y. apart))
    (λ u. fixed_fits close (missing (Exactly close) 0) (refl, refl)) (λ x. avoids_append (Exactly close) (f.spell x.0) ((others_with close f).spell x.1) (first x.0)))

-- ---- how a choice begins

pub either_begins : {A B : Type 0} (d : Class) (f : Format A) (g : Format B) → ((x : A) → begins d (f.spell x) ≡ true) → ((y : B) → begins d (g.spell y) ≡ true) → (z : A ⊎ B) → begins d (spell_either f g z) ≡ true
either_begins d f g p q (inl x) = p x
either_begins d f g p q (inr y) = q y

pub either_avoids : {A B : Type 0} (d : Class) (f : Format A) (g : Format B) → ((x : A) → avoids d (f.spell x) ≡ true) → ((y : B) → avoids d (g.spell y) ≡ true) → (z : A ⊎ B) → avoids d (spell_either f g z) ≡ true
either_avoids d f g p q (inl x) = p x
either_avoids d f g p q (inr y) = q y

many_apart : {A B : Type 0} (d : Class) (f : Format A) (g : Format B) → ((x : A) → avoids d (f.spell x) ≡ true) → ((y : B) → avoids d (g.spell y) ≡ true) → (xs : List A) (y : B) → avoids d (spell_many f xs ++ g.spell y) ≡ true
many_apart d f g p q [] y = q y
many_apart d f g p q (x ∷ xs) y = avoids_append d (f.spell x ++ spell_many f xs) (g.spell y) (avoids_append d (f.spell x) (spell_many f xs) (p x))

pub many_avoids : {A B : Type 0} (d : Class) (f : Format A) (g : Format B) → ((x : A) → avoids d (f.spell x) ≡ true) → ((y : B) → avoids d (g.spell y) ≡ true) → (z : List A × B) → avoids d (spell_many f z.0 ++ g.spell z.1) ≡ true
many_avoids d f g p q z = many_apart d f g p q z.0 z.1

some_apart : {A B : Type 0} (d : Class) (f : Format A) (g : Format B) → ((x : A) → avoids d (f.spell x) ≡ true) → ((y : B) → avoids d (g.spell y) ≡ true) → (o : Option A) (y : B) → avoids d (spell_some f o ++ g.spell y) ≡ true
some_apart d f g p q None y = q y
some_apart d f g p q (Some x) y = avoids_append d (f.spell x) (g.spell y) (p x)

pub optional_avoids : {A B : Type 0} (d : Class) (f : Format A) (g : Format B) → ((x : A) → avoids d (f.spell x) ≡ true) → ((y : B) → avoids d (g.spell y) ≡ true) → (z : Option A × B) → avoids d (spell_some f z.0 ++ g.spell z.1) ≡ true
optional_avoids d f g p q z = some_apart d f g p q z.0 z.1

pub list_avoids : {A : Type 0} (d : Class) (close : Lexeme) (f : Format A) → ((x : A) → avoids d (f.spell x) ≡ true) → avoids d (Fixed close ∷ []) ≡ true → (xs : List A) → avoids d ((list_before close f).spell xs) ≡ true
unfolding list_before
list_avoids d close f p q [] = q
list_avoids d close f p q (x ∷ xs) = avoids_append d (f.spell x) ((others_before close f).spell xs) (p x)
