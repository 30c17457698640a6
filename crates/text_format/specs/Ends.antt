-- Formats of a whole text. Nothing comes behind it, so that it may end in an item that need not be there.
use Rattle.std.specs.Prelude.{◌≡◌, ◌≤◌, ℕ, zero, suc, Bool, true, false, List, [], ◌∷◌, ◌++◌, length, ◌⊎◌, cond, Option, Some, None}
use Rattle.std.proofs.Common.{refl, sym, ap, subst, ◌∙◌, inl, inr, arith, length-append}
use Rattle.std.proofs.lemmas.Bool.{cond-true, cond-false}
use Rattle.std.proofs.lemmas.List.{append-nil}
use Rattle.text_format.specs.declared.class.Class.{Class}
use Rattle.text_format.specs.Token.{TokenShape}
use Rattle.text_format.specs.Formats.{State, Item, live, sees, Format, as_record, spell_either, first_read, second_read, either, spell_some, some_read, optional_at, spell_many, many_in, weight, many_at}
use Rattle.text_format.specs.Laws.{Matches, Consumes, IsExact, begins, avoids}
use Rattle.text_format.specs.Apart.{begins_sees, avoids_sees, begins_front, avoids_front, nonempty}
use Rattle.text_format.specs.Exact.{nothing, one_then, split, fronts, none_read, forward_by, from_here, read_front}
use Rattle.text_format.specs.Many.{many_reads, many_once, many_again, many_forward, first_begins}

-- what is read is spelled so; a text that is spelled so is read; tokens that begin as one is spelled are read, whatever comes after them
pub record IsWhole {A : Type 0} (f : Format A) : Type 0 where
  pub reads : (s : State) → Consumes (f.spell (f.read s).0) s (f.read s).1
  pub whole : (end : ℕ) (x : A) (ts : List TokenShape) → Matches (f.spell x) ts → f.read (live end ts) ≡ (x, live end [])
  pub greedy : (end : ℕ) (x : A) (pre tail : List Item) (ts rest : List TokenShape) → f.spell x ≡ pre ++ tail → Matches pre ts → length (f.read (live end (ts ++ rest))).1.rest ≤ length rest

pub exact-whole : {A : Type 0} {f : Format A} → IsExact f → IsWhole f
exact-whole {A} {f} p = record {
  reads = p.reads;
  whole = λ end x ts m. ap (λ (y : List TokenShape). f.read (live end y)) (sym (append-nil ts)) ∙ p.again end x ts [] m;
  greedy = p.greedy;
}

pub record-whole : {A B : Type 0} (make : A → B) (parts : B → A) (f : Format A) → ((x : A) → parts (make x) ≡ x) → ((y : B) → make (parts y) ≡ y) → IsWhole f → IsWhole (as_record make parts f)
record-whole make parts f back forth p = record {
  reads = λ s. subst (λ x. Consumes (f.spell x) s (f.read s).1) (sym (back (f.read s).0)) (p.reads s);
  whole = λ end y ts m. ap (λ r. (make r.0, r.1)) (p.whole end (parts y) ts m) ∙ ap (λ z. (z, live end [])) (forth y);
  greedy = λ end y pre tail ts rest e m. p.greedy end (parts y) pre tail ts rest e m;
}

-- ---- one of two

either_step : {A B : Type 0} (f : Format A) (g : Format B) (s : State) (x : A × State) (y : B × State) (b : Bool) → Consumes (f.spell x.0) s x.1 → Consumes (g.spell y.0) s y.1
    → let r : (A ⊎ B) × State = cond b (first_read x) (second_read y) in Consumes (spell_either f g r.0) s r.1
either_step f g s x y true p q = p
either_step f g s x y false p q = q

either_reads : {A B : Type 0} (c : Class) (f : Format A) (g : Format B) → IsWhole f → IsWhole g → (s : State) → Consumes ((either c f g).spell ((either c f g).read s).0) s ((either c f g).read s).1
either_reads c f g p q s = either_step f g s (f.read s) (g.read s) (sees c s) (p.reads s) (q.reads s)

either_first : {A B : Type 0} (c : Class) (f : Format A) (g : Format B) (s : State) → sees c s ≡ true → (either c f g).read s ≡ first_read (f.read s)
either_first c f g s e = cond-true (sees c s) _ _ e

either_second : {A B : Type 0} (c : Class) (f : Format A) (g : Format B) (s : State) → sees c s ≡ false → (either c f g).read s ≡ second_read (g.read s)
either_second c f g s e = cond-false (sees c s) _ _ e

bare : (c : Class) (end : ℕ) (ts : List TokenShape) (b : Bool) → sees c (live end (ts ++ [])) ≡ b → sees c (live end ts) ≡ b
bare c end ts b e = subst (λ (y : List TokenShape). sees c (live end y) ≡ b) (append-nil ts) e

either_whole : {A B : Type 0} (c : Class) (f : Format A) (g : Format B) → IsWhole f → IsWhole g → ((x : A) → begins c (f.spell x) ≡ true) → ((y : B) → avoids c (g.spell y) ≡ true)
    → (end : ℕ) (z : A ⊎ B) (ts : List TokenShape) → Matches (spell_either f g z) ts → (either c f g).read (live end ts) ≡ (z, live end [])
either_whole c f g p q first other end (inl x) ts m =
    either_first c f g (live end ts) (bare c end ts true (begins_sees c end (f.spell x) ts [] (first x) m)) ∙ ap first_read (p.whole end x ts m)
either_whole c f g p q first other end (inr y) ts m =
    either_second c f g (live end ts) (bare c end ts false (avoids_sees c end (g.spell y) ts [] (other y) m)) ∙ ap second_read (q.whole end y ts m)

either_greedy : {A B : Type 0} (c : Class) (f : Format A) (g : Format B) → IsWhole f → IsWhole g → ((x : A) → begins c (f.spell x) ≡ true) → ((y : B) → avoids c (g.spell y) ≡ true)
    → (end : ℕ) (z : A ⊎ B) (pre tail : List Item) (ts rest : List TokenShape) → spell_either f g z ≡ pre ++ tail → Matches pre ts → length ((either c f g).read (live end (ts ++ rest))).1.rest ≤ length rest
either_greedy c f g p q first other end z [] tail ts rest e m =
    from_here (either c f g) (λ s. forward_by s.stop s.end ((either c f g).spell ((either c f g).read s).0) s.rest ((either c f g).read s).1 (either_reads c f g p q s)) end ts rest (none_read ts m)
either_greedy c f g p q first other end z (i ∷ pre) tail [] rest e m = absurd m
either_greedy c f g p q first other end (inl x) (i ∷ pre) tail (t ∷ ts) rest e m =
    let b = subst (λ is. begins c is ≡ true) e (first x) in
    let k = ap (λ y. length y.1.rest) (either_first c f g (live end (t ∷ (ts ++ rest))) (begins_sees c end (i ∷ pre) (t ∷ ts) rest (begins_front c i pre tail b) m)) in
    let h = p.greedy end x (i ∷ pre) tail (t ∷ ts) rest e m in
    omega (arith, h, k)
either_greedy c f g p q first other end (inr y) (i ∷ pre) tail (t ∷ ts) rest e m =
    let b = subst (λ is. avoids c is ≡ true) e (other y) in
    let k = ap (λ y. length y.1.rest) (either_second c f g (live end (t ∷ (ts ++ rest))) (avoids_sees c end (i ∷ pre) (t ∷ ts) rest (avoids_front c i pre tail b) m)) in
    let h = q.greedy end y (i ∷ pre) tail (t ∷ ts) rest e m in
    omega (arith, h, k)

pub either-whole : {A B : Type 0} (c : Class) {f : Format A} {g : Format B} → IsWhole f → IsWhole g → ((x : A) → begins c (f.spell x) ≡ true) → ((y : B) → avoids c (g.spell y) ≡ true) → IsWhole (either c f g)
either-whole c {f} {g} p q first other = record {
  reads = either_reads c f g p q;
  whole = λ end z ts m. either_whole c f g p q first other end z ts m;
  greedy = λ end z pre tail ts rest e m. either_greedy c f g p q first other end z pre tail ts rest e m;
}

-- ---- a last item that need not be there

-- the first, and behind it, where a token of the class comes next, the second
abbrev pub with_last : {A B : Type 0} → Class → Format A → Format B → Format (A × Option B)
with_last c f g = record { spell = λ x. f.spell x.0 ++ spell_some g x.1; read = λ s. (((f.read s).0, (optional_at c g (f.read s).1).0), (optional_at c g (f.read s).1).1) }

last_step : {B : Type 0} (g : Format B) → IsExact g → (s : State) (b : Bool) → let o : Option B × State = cond b (some_read (g.read s)) (None, s) in Consumes (spell_some g o.0) s o.1
last_step g q s true = q.reads s
last_step g q s false = nothing s.stop s.end s.rest

pub last_reads : {B : Type 0} (c : Class) (g : Format B) → IsExact g → (s : State) → Consumes (spell_some g (optional_at c g s).0) s (optional_at c g s).1
unfolding optional_at
last_reads c g q s = last_step g q s (sees c s)

last_forward : {B : Type 0} (c : Class) (g : Format B) → IsExact g → (s : State) → length (optional_at c g s).1.rest ≤ length s.rest
last_forward c g q s = forward_by s.stop s.end (spell_some g (optional_at c g s).0) s.rest (optional_at c g s).1 (last_reads c g q s)

pub last_there : {B : Type 0} (c : Class) (g : Format B) (s : State) → sees c s ≡ true → optional_at c g s ≡ some_read (g.read s)
unfolding optional_at
last_there c g s e = cond-true (sees c s) _ _ e

last_whole : {B : Type 0} (c : Class) (g : Format B) → IsExact g → ((y : B) → begins c (g.spell y) ≡ true) → (end : ℕ) (o : Option B) (ts : List TokenShape) → Matches (spell_some g o) ts → optional_at c g (live end ts) ≡ (o, live end [])
unfolding optional_at sees
last_whole c g q first end None [] m = refl
last_whole c g q first end None (t ∷ ts) m = absurd m
last_whole c g q first end (Some y) ts m =
    last_there c g (live end ts) (bare c end ts true (begins_sees c end (g.spell y) ts [] (first y) m)) ∙ ap some_read ((exact-whole q).whole end y ts m)

last_greedy : {B : Type 0} (c : Class) (g : Format B) → IsExact g → ((y : B) → begins c (g.spell y) ≡ true)
    → (end : ℕ) (o : Option B) (pre tail : List Item) (ts rest : List TokenShape) → spell_some g o ≡ pre ++ tail → Matches pre ts → length (optional_at c g (live end (ts ++ rest))).1.rest ≤ length rest
last_greedy c g q first end o [] tail ts rest e m =
    let h = last_forward c g q (live end (ts ++ rest)) in
    omega (arith, h, ap (λ (y : List TokenShape). length (y ++ rest)) (none_read ts m))
last_greedy c g q first end o (i ∷ pre) tail [] rest e m = absurd m
last_greedy c g q first end None (i ∷ pre) tail (t ∷ ts) rest e m = absurd cc
last_greedy c g q first end (Some y) (i ∷ pre) tail (t ∷ ts) rest e m =
    let b = subst (λ is. begins c is ≡ true) e (first y) in
    let k = ap (λ z. length z.1.rest) (last_there c g (live end (t ∷ (ts ++ rest))) (begins_sees c end (i ∷ pre) (t ∷ ts) rest (begins_front c i pre tail b) m)) in
    let h = q.greedy end y (i ∷ pre) tail (t ∷ ts) rest e m in
    omega (arith, h, k)

pub with_greedy : {A B : Type 0} (c : Class) (f : Format A) (g : Format B) → IsExact f → IsExact g → ((y : B) → begins c (g.spell y) ≡ true)
    → (end : ℕ) (x : A × Option B) (pre tail : List Item) (ts rest : List TokenShape) → f.spell x.0 ++ spell_some g x.1 ≡ pre ++ tail → Matches pre ts → length ((with_last c f g).read (live end (ts ++ rest))).1.rest ≤ length rest
with_greedy c f g p q first end x pre tail ts rest e m =
    elim (fronts (f.spell x.0) (spell_some g x.1) pre tail e) [
      | inl r ↦
          let h = p.greedy end x.0 pre r.0 ts rest r.1 m in
          let k = last_forward c g q (f.read (live end (ts ++ rest))).1 in
          omega (arith, h, k)
      | inr r ↦
          let s = split (f.spell x.0) r.0 ts (subst (λ is. Matches is ts) r.1 m) in
          let one = read_front f p end x.0 s.0 s.1 ts rest s.2 s.3 in
          let h = last_greedy c g q first end x.1 r.0 tail s.1 rest r.2 s.4 in
          let k : length (optional_at c g (f.read (live end (ts ++ rest))).1).1.rest ≡ length (optional_at c g (live end (s.1 ++ rest))).1.rest = ap (λ y. length (optional_at c g y.1).1.rest) one in
          omega (arith, h, k)
    ]

pub last-whole : {A B : Type 0} (c : Class) {f : Format A} {g : Format B} → IsExact f → IsExact g → ((y : B) → begins c (g.spell y) ≡ true) → IsWhole (with_last c f g)
last-whole c {f} {g} p q first = record {
  reads = λ s. one_then (f.spell (f.read s).0) (spell_some g (optional_at c g (f.read s).1).0) s (f.read s).1 (optional_at c g (f.read s).1).1 (p.reads s) (last_reads c g q (f.read s).1);
  whole = λ end x ts m.
      let r = split (f.spell x.0) (spell_some g x.1) ts m in
      let e = ap (λ (y : List TokenShape). f.read (live end y)) r.2 ∙ p.again end x.0 r.0 r.1 r.3 in
      ap (λ y. ((y.0, (optional_at c g y.1).0), (optional_at c g y.1).1)) e ∙ ap (λ y. ((x.0, y.0), y.1)) (last_whole c g q first end x.1 r.1 r.4);
  greedy = λ end x pre tail ts rest e m. with_greedy c f g p q first end x pre tail ts rest e m;
}

-- ---- any number of items, up to the end

-- items, as long as a token of the class comes next
abbrev pub all : {A : Type 0} → Class → Format A → Format (List A)
all c f = record { spell = spell_many f; read = many_at c f }

all_whole : {A : Type 0} (c : Class) (f : Format A) → IsExact f → ((x : A) → begins c (f.spell x) ≡ true)
    → (end : ℕ) (xs : List A) (ts : List TokenShape) → Matches (spell_many f xs) ts → many_at c f (live end ts) ≡ (xs, live end [])
unfolding sees
all_whole c f p first end xs ts m =
    ap (λ (y : List TokenShape). many_in c f (length ts) (live end y)) (sym (append-nil ts)) ∙ many_again f p c first end xs ts [] (length ts) m (omega arith) refl

all_greedy : {A : Type 0} (c : Class) (f : Format A) → IsExact f → ((x : A) → begins c (f.spell x) ≡ true)
    → (end : ℕ) (xs : List A) (pre tail : List Item) (ts rest : List TokenShape) (n : ℕ) → spell_many f xs ≡ pre ++ tail → Matches pre ts → length ts ≤ n → length (many_in c f n (live end (ts ++ rest))).1.rest ≤ length rest
all_greedy c f p first end xs [] tail ts rest n e m le =
    let h = many_forward f p.reads c n (live end (ts ++ rest)) in
    omega (arith, h, ap (λ (y : List TokenShape). length (y ++ rest)) (none_read ts m))
all_greedy c f p first end xs (i ∷ pre) tail [] rest n e m le = absurd m
all_greedy c f p first end [] (i ∷ pre) tail (t ∷ ts) rest n e m le = absurd cc
all_greedy c f p first end (x ∷ xs) (i ∷ pre) tail (t ∷ ts) rest zero e m le = absurd (omega arith)
all_greedy c f p first end (x ∷ xs) (i ∷ pre) tail (t ∷ ts) rest (suc n) e m le =
    let yes = begins_sees c end (i ∷ pre) (t ∷ ts) rest (first_begins c (f.spell x) (spell_many f xs) i pre tail (first x) e) m in
    let once = ap (λ r. length r.1.rest) (many_once f c n (live end (t ∷ (ts ++ rest))) yes) in
    let mid = (f.read (live end (t ∷ (ts ++ rest)))).1 in
    elim (fronts (f.spell x) (spell_many f xs) (i ∷ pre) tail e) [
      | inl r ↦
          let a = p.greedy end x (i ∷ pre) r.0 (t ∷ ts) rest r.1 m in
          let b = many_forward f p.reads c n mid in
          omega (arith, a, b, once)
      | inr r ↦
          let s = split (f.spell x) r.0 (t ∷ ts) (subst (λ is. Matches is (t ∷ ts)) r.1 m) in
          let one = ap (λ y. length (many_in c f n y.1).1.rest) (read_front f p end x s.0 s.1 (t ∷ ts) rest s.2 s.3) in
          let d = nonempty c (f.spell x) s.0 (first x) s.3 in
          let le2 : length s.1 ≤ n = omega (arith, le, d, length-append s.0 s.1, ap length s.2) in
          let a = all_greedy c f p first end xs r.0 tail s.1 rest n r.2 s.4 le2 in
          omega (arith, a, once, one)
    ]

pub all-whole : {A : Type 0} (c : Class) {f : Format A} → IsExact f → ((x : A) → begins c (f.spell x) ≡ true) → IsWhole (all c f)
all-whole c {f} p first = record {
  reads = λ s. many_reads f p.reads c (weight s) s;
  whole = λ end xs ts m. all_whole c f p first end xs ts m;
  greedy = λ end xs pre tail ts rest e m. all_greedy c f p first end xs pre tail ts rest (length (ts ++ rest)) e m (omega (arith, length-append ts rest));
}
