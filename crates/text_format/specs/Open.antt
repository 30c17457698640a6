-- Formats that may end in an item which need not be there: they are exact where no token of the item's class follows.
use Rattle.std.specs.Prelude.{◌≡◌, ◌≤◌, ℕ, zero, suc, Bool, true, false, List, [], ◌∷◌, ◌++◌, length, ◌⊎◌, cond, Option, Some, None}
use Rattle.std.proofs.Common.{refl, sym, ap, subst, ◌∙◌, inl, inr, append_assoc, arith, length-append}
use Rattle.std.proofs.lemmas.Bool.{cond-true, cond-false}
use Rattle.std.proofs.lemmas.List.{append-nil}
use Rattle.text_format.specs.declared.lexeme.Lexeme.{Lexeme}
use Rattle.text_format.specs.declared.class.Class.{Class}
use Rattle.text_format.specs.Token.{TokenShape}
use Rattle.text_format.specs.Formats.{State, Item, live, sees, Format, only, ◌⊗◌, as_record, ◌▸◌, spell_either, first_read, second_read, either, spell_some, some_read, optional_at, spell_many, onto, many_in, weight, many_at, many}
use Rattle.text_format.specs.Laws.{Matches, Consumes, Reads, IsExact, begins, avoids}
use Rattle.text_format.specs.Apart.{begins_sees, avoids_sees, begins_front, avoids_front, nonempty}
use Rattle.text_format.specs.Exact.{one_then, split, fronts, none_read, forward_by, from_here, read_front, only-exact}
use Rattle.text_format.specs.Many.{many_reads, many_none, many_once, many_forward, first_begins, left, avoids_append}
use Rattle.text_format.specs.Ends.{with_last, last_reads, last_there, with_greedy}

-- what is read is spelled so; what is spelled so is read, where no token of the class follows; tokens that begin as a tree is spelled are read, whatever comes after them
pub record IsOpen {A : Type 0} (d : Class) (f : Format A) : Type 0 where
  pub reads : (s : State) → Consumes (f.spell (f.read s).0) s (f.read s).1
  pub again : (end : ℕ) (x : A) (ts rest : List TokenShape) → sees d (live end rest) ≡ false → Matches (f.spell x) ts → f.read (live end (ts ++ rest)) ≡ (x, live end rest)
  pub greedy : (end : ℕ) (x : A) (pre tail : List Item) (ts rest : List TokenShape) → f.spell x ≡ pre ++ tail → Matches pre ts → length (f.read (live end (ts ++ rest))).1.rest ≤ length rest

pub exact-open : {A : Type 0} (d : Class) {f : Format A} → IsExact f → IsOpen d f
exact-open d p = record {
  reads = p.reads;
  again = λ end x ts rest away m. p.again end x ts rest m;
  greedy = p.greedy;
}

pub record-open : {A B : Type 0} (d : Class) (make : A → B) (parts : B → A) (f : Format A) → ((x : A) → parts (make x) ≡ x) → ((y : B) → make (parts y) ≡ y) → IsOpen d f → IsOpen d (as_record make parts f)
record-open d make parts f back forth p = record {
  reads = λ s. subst (λ x. Consumes (f.spell x) s (f.read s).1) (sym (back (f.read s).0)) (p.reads s);
  again = λ end y ts rest away m. ap (λ r. (make r.0, r.1)) (p.again end (parts y) ts rest away m) ∙ ap (λ z. (z, live end rest)) (forth y);
  greedy = λ end y pre tail ts rest e m. p.greedy end (parts y) pre tail ts rest e m;
}

forward : {A : Type 0} (f : Format A) → Reads f → (s : State) → length (f.read s).1.rest ≤ length s.rest
forward f p s = forward_by s.stop s.end (f.spell (f.read s).0) s.rest (f.read s).1 (p s)

-- ---- the item itself

last_again : {B : Type 0} (c : Class) (g : Format B) → IsExact g → ((y : B) → begins c (g.spell y) ≡ true)
    → (end : ℕ) (o : Option B) (ts rest : List TokenShape) → sees c (live end rest) ≡ false → Matches (spell_some g o) ts → optional_at c g (live end (ts ++ rest)) ≡ (o, live end rest)
unfolding optional_at
last_again c g q first end None [] rest away m = cond-false (sees c (live end rest)) _ _ away
last_again c g q first end None (t ∷ ts) rest away m = absurd m
last_again c g q first end (Some y) ts rest away m =
    last_there c g (live end (ts ++ rest)) (begins_sees c end (g.spell y) ts rest (first y) m) ∙ ap some_read (q.again end y ts rest m)

-- a format, and behind it an item that need not be there
pub last-open : {A B : Type 0} (c : Class) {f : Format A} {g : Format B} → IsExact f → IsExact g → ((y : B) → begins c (g.spell y) ≡ true) → IsOpen c (with_last c f g)
last-open c {f} {g} p q first = record {
  reads = λ s. one_then (f.spell (f.read s).0) (spell_some g (optional_at c g (f.read s).1).0) s (f.read s).1 (optional_at c g (f.read s).1).1 (p.reads s) (last_reads c g q (f.read s).1);
  again = λ end x ts rest away m.
      let r = split (f.spell x.0) (spell_some g x.1) ts m in
      let e = read_front f p end x.0 r.0 r.1 ts rest r.2 r.3 in
      ap (λ y. ((y.0, (optional_at c g y.1).0), (optional_at c g y.1).1)) e ∙ ap (λ y. ((x.0, y.0), y.1)) (last_again c g q first end x.1 r.1 rest away r.4);
  greedy = λ end x pre tail ts rest e m. with_greedy c f g p q first end x pre tail ts rest e m;
}

-- ---- behind an exact format

pair_greedy : {A B : Type 0} (d : Class) (f : Format A) (g : Format B) → IsExact f → IsOpen d g
    → (end : ℕ) (x : A × B) (pre tail : List Item) (ts rest : List TokenShape) → f.spell x.0 ++ g.spell x.1 ≡ pre ++ tail → Matches pre ts → length ((f ⊗ g).read (live end (ts ++ rest))).1.rest ≤ length rest
pair_greedy d f g p q end x pre tail ts rest e m =
    elim (fronts (f.spell x.0) (g.spell x.1) pre tail e) [
      | inl r ↦
          let h = p.greedy end x.0 pre r.0 ts rest r.1 m in
          let k = forward g q.reads (f.read (live end (ts ++ rest))).1 in
          omega (arith, h, k)
      | inr r ↦
          let s = split (f.spell x.0) r.0 ts (subst (λ is. Matches is ts) r.1 m) in
          let one = read_front f p end x.0 s.0 s.1 ts rest s.2 s.3 in
          let h = q.greedy end x.1 r.0 tail s.1 rest r.2 s.4 in
          let k : length (g.read (f.read (live end (ts ++ rest))).1).1.rest ≡ length (g.read (live end (s.1 ++ rest))).1.rest = ap (λ y. length (g.read y.1).1.rest) one in
          omega (arith, h, k)
    ]

pub pair-open : {A B : Type 0} (d : Class) {f : Format A} {g : Format B} → IsExact f → IsOpen d g → IsOpen d (f ⊗ g)
pair-open d {f} {g} p q = record {
  reads = λ s. one_then (f.spell (f.read s).0) (g.spell (g.read (f.read s).1).0) s (f.read s).1 (g.read (f.read s).1).1 (p.reads s) (q.reads (f.read s).1);
  again = λ end x ts rest away m.
      let r = split (f.spell x.0) (g.spell x.1) ts m in
      let e = read_front f p end x.0 r.0 r.1 ts rest r.2 r.3 in
      ap (λ y. ((y.0, (g.read y.1).0), (g.read y.1).1)) e ∙ ap (λ y. ((x.0, y.0), y.1)) (q.again end x.1 r.1 rest away r.4);
  greedy = λ end x pre tail ts rest e m. pair_greedy d f g p q end x pre tail ts rest e m;
}

pub fixed-open : {A : Type 0} (d : Class) (l : Lexeme) {f : Format A} → IsOpen d f → IsOpen d (l ▸ f)
fixed-open d l {f} p = record-open d (λ x. x.1) (λ y. (tt, y)) (only l ⊗ f) (λ x. refl) (λ y. refl) (pair-open d (only-exact l) p)

-- ---- one of two

either_step : {A B : Type 0} (f : Format A) (g : Format B) (s : State) (x : A × State) (y : B × State) (b : Bool) → Consumes (f.spell x.0) s x.1 → Consumes (g.spell y.0) s y.1
    → let r : (A ⊎ B) × State = cond b (first_read x) (second_read y) in Consumes (spell_either f g r.0) s r.1
either_step f g s x y true p q = p
either_step f g s x y false p q = q

either_reads : {A B : Type 0} (c : Class) (f : Format A) (g : Format B) → Reads f → Reads g → (s : State) → Consumes ((either c f g).spell ((either c f g).read s).0) s ((either c f g).read s).1
either_reads c f g p q s = either_step f g s (f.read s) (g.read s) (sees c s) (p s) (q s)

either_first : {A B : Type 0} (c : Class) (f : Format A) (g : Format B) (s : State) → sees c s ≡ true → (either c f g).read s ≡ first_read (f.read s)
either_first c f g s e = cond-true (sees c s) _ _ e

either_second : {A B : Type 0} (c : Class) (f : Format A) (g : Format B) (s : State) → sees c s ≡ false → (either c f g).read s ≡ second_read (g.read s)
either_second c f g s e = cond-false (sees c s) _ _ e

either_again : {A B : Type 0} (c d : Class) (f : Format A) (g : Format B) → IsOpen d f → IsOpen d g → ((x : A) → begins c (f.spell x) ≡ true) → ((y : B) → avoids c (g.spell y) ≡ true)
    → (end : ℕ) (z : A ⊎ B) (ts rest : List TokenShape) → sees d (live end rest) ≡ false → Matches (spell_either f g z) ts → (either c f g).read (live end (ts ++ rest)) ≡ (z, live end rest)
either_again c d f g p q first other end (inl x) ts rest away m =
    either_first c f g (live end (ts ++ rest)) (begins_sees c end (f.spell x) ts rest (first x) m) ∙ ap first_read (p.again end x ts rest away m)
either_again c d f g p q first other end (inr y) ts rest away m =
    either_second c f g (live end (ts ++ rest)) (avoids_sees c end (g.spell y) ts rest (other y) m) ∙ ap second_read (q.again end y ts rest away m)

either_greedy : {A B : Type 0} (c d : Class) (f : Format A) (g : Format B) → IsOpen d f → IsOpen d g → ((x : A) → begins c (f.spell x) ≡ true) → ((y : B) → avoids c (g.spell y) ≡ true)
    → (end : ℕ) (z : A ⊎ B) (pre tail : List Item) (ts rest : List TokenShape) → spell_either f g z ≡ pre ++ tail → Matches pre ts → length ((either c f g).read (live end (ts ++ rest))).1.rest ≤ length rest
either_greedy c d f g p q first other end z [] tail ts rest e m = from_here (either c f g) (forward (either c f g) (either_reads c f g p.reads q.reads)) end ts rest (none_read ts m)
either_greedy c d f g p q first other end z (i ∷ pre) tail [] rest e m = absurd m
either_greedy c d f g p q first other end (inl x) (i ∷ pre) tail (t ∷ ts) rest e m =
    let b = subst (λ is. begins c is ≡ true) e (first x) in
    let k = ap (λ y. length y.1.rest) (either_first c f g (live end (t ∷ (ts ++ rest))) (begins_sees c end (i ∷ pre) (t ∷ ts) rest (begins_front c i pre tail b) m)) in
    let h = p.greedy end x (i ∷ pre) tail (t ∷ ts) rest e m in
    omega (arith, h, k)
either_greedy c d f g p q first other end (inr y) (i ∷ pre) tail (t ∷ ts) rest e m =
    let b = subst (λ is. avoids c is ≡ true) e (other y) in
    let k = ap (λ y. length y.1.rest) (either_second c f g (live end (t ∷ (ts ++ rest))) (avoids_sees c end (i ∷ pre) (t ∷ ts) rest (avoids_front c i pre tail b) m)) in
    let h = q.greedy end y (i ∷ pre) tail (t ∷ ts) rest e m in
    omega (arith, h, k)

pub either-open : {A B : Type 0} (c d : Class) {f : Format A} {g : Format B} → IsOpen d f → IsOpen d g → ((x : A) → begins c (f.spell x) ≡ true) → ((y : B) → avoids c (g.spell y) ≡ true) → IsOpen d (either c f g)
either-open c d {f} {g} p q first other = record {
  reads = either_reads c f g p.reads q.reads;
  again = λ end z ts rest away m. either_again c d f g p q first other end z ts rest away m;
  greedy = λ end z pre tail ts rest e m. either_greedy c d f g p q first other end z pre tail ts rest e m;
}

-- ---- many, which what comes behind them closes

front_again : {A : Type 0} (d : Class) (f : Format A) → IsOpen d f → (end : ℕ) (x : A) (a b ts rest : List TokenShape) → ts ≡ a ++ b → sees d (live end (b ++ rest)) ≡ false → Matches (f.spell x) a → f.read (live end (ts ++ rest)) ≡ (x, live end (b ++ rest))
front_again d f p end x a b ts rest e away m =
    ap (λ (y : List TokenShape). f.read (live end (y ++ rest))) e ∙ ap (λ (y : List TokenShape). f.read (live end y)) (append_assoc a b rest) ∙ p.again end x a (b ++ rest) away m

-- what stands behind an item of many is another, or what follows them
many_away : {A : Type 0} (d : Class) (f : Format A) → ((x : A) → avoids d (f.spell x) ≡ true) → (end : ℕ) (xs : List A) (ts rest : List TokenShape) → sees d (live end rest) ≡ false → Matches (spell_many f xs) ts → sees d (live end (ts ++ rest)) ≡ false
many_away d f apart end [] [] rest away m = away
many_away d f apart end [] (t ∷ ts) rest away m = absurd m
many_away d f apart end (x ∷ xs) ts rest away m = avoids_sees d end (f.spell x ++ spell_many f xs) ts rest (avoids_append d (f.spell x) (spell_many f xs) (apart x)) m

many_again : {A : Type 0} (d : Class) (f : Format A) → IsOpen d f → (c : Class) → ((x : A) → begins c (f.spell x) ≡ true) → ((x : A) → avoids d (f.spell x) ≡ true)
    → (end : ℕ) (xs : List A) (ts rest : List TokenShape) (n : ℕ) → Matches (spell_many f xs) ts → length ts ≤ n → sees c (live end rest) ≡ false → sees d (live end rest) ≡ false → many_in c f n (live end (ts ++ rest)) ≡ (xs, live end rest)
many_again d f p c first apart end [] [] rest n m le e away = many_none f c n (live end rest) e
many_again d f p c first apart end [] (t ∷ ts) rest n m le e away = absurd m
many_again d f p c first apart end (x ∷ xs) ts rest zero m le e away =
    let r = split (f.spell x) (spell_many f xs) ts m in
    let k = nonempty c (f.spell x) r.0 (first x) r.3 in
    absurd (omega (arith, k, le, length-append r.0 r.1, ap length r.2))
many_again d f p c first apart end (x ∷ xs) ts rest (suc n) m le e away =
    let r = split (f.spell x) (spell_many f xs) ts m in
    let k = nonempty c (f.spell x) r.0 (first x) r.3 in
    let one = front_again d f p end x r.0 r.1 ts rest r.2 (many_away d f apart end xs r.1 rest away r.4) r.3 in
    let yes : sees c (live end (ts ++ rest)) ≡ true =
    ap (λ (y : List TokenShape). sees c (live end (y ++ rest))) r.2 ∙ ap (λ (y : List TokenShape). sees c (live end y)) (append_assoc r.0 r.1 rest) ∙ begins_sees c end (f.spell x) r.0 (r.1 ++ rest) (first x) r.3 in
    let others = many_again d f p c first apart end xs r.1 rest n r.4 (omega (arith, k, le, length-append r.0 r.1, ap length r.2)) e away in
    many_once f c n (live end (ts ++ rest)) yes ∙ ap (λ y. onto y.0 (many_in c f n y.1)) one ∙ ap (onto x) others

many_avoids : {A B : Type 0} (d : Class) (f : Format A) (g : Format B) → ((x : A) → avoids d (f.spell x) ≡ true) → ((y : B) → avoids d (g.spell y) ≡ true) → (xs : List A) (y : B) → avoids d (spell_many f xs ++ g.spell y) ≡ true
many_avoids d f g apart behind [] y = behind y
many_avoids d f g apart behind (x ∷ xs) y = avoids_append d (f.spell x ++ spell_many f xs) (g.spell y) (avoids_append d (f.spell x) (spell_many f xs) (apart x))

many_greedy : {A B : Type 0} (d : Class) (f : Format A) (g : Format B) → IsOpen d f → IsExact g → (c : Class) → ((x : A) → begins c (f.spell x) ≡ true) → ((x : A) → avoids d (f.spell x) ≡ true) → ((y : B) → avoids c (g.spell y) ≡ true) → ((y : B) → avoids d (g.spell y) ≡ true)
    → (end : ℕ) (xs : List A) (y : B) (pre tail : List Item) (ts rest : List TokenShape) (n : ℕ) → spell_many f xs ++ g.spell y ≡ pre ++ tail → Matches pre ts → length ts ≤ n
    → left g (many_in c f n (live end (ts ++ rest))) ≤ length rest
many_greedy d f g p q c first apart other behind end xs y [] tail ts rest n e m le =
    let h = many_forward f p.reads c n (live end (ts ++ rest)) in
    let k = forward g q.reads (many_in c f n (live end (ts ++ rest))).1 in
    omega (arith, h, k, ap (λ (y : List TokenShape). length (y ++ rest)) (none_read ts m))
many_greedy d f g p q c first apart other behind end xs y (i ∷ pre) tail [] rest n e m le = absurd m
many_greedy d f g p q c first apart other behind end [] y (i ∷ pre) tail (t ∷ ts) rest n e m le =
    let b = subst (λ is. avoids c is ≡ true) e (other y) in
    let no = avoids_sees c end (i ∷ pre) (t ∷ ts) rest (avoids_front c i pre tail b) m in
    let k = ap (left g) (many_none f c n (live end (t ∷ (ts ++ rest))) no) in
    let h = q.greedy end y (i ∷ pre) tail (t ∷ ts) rest e m in
    omega (arith, h, k)
many_greedy d f g p q c first apart other behind end (x ∷ xs) y (i ∷ pre) tail (t ∷ ts) rest zero e m le = absurd (omega arith)
many_greedy d f g p q c first apart other behind end (x ∷ xs) y (i ∷ pre) tail (t ∷ ts) rest (suc n) e m le =
    let k2 : f.spell x ++ (spell_many f xs ++ g.spell y) ≡ i ∷ (pre ++ tail) = sym (append_assoc (f.spell x) (spell_many f xs) (g.spell y)) ∙ e in
    let yes = begins_sees c end (i ∷ pre) (t ∷ ts) rest (first_begins c (f.spell x) (spell_many f xs ++ g.spell y) i pre tail (first x) k2) m in
    let once = ap (left g) (many_once f c n (live end (t ∷ (ts ++ rest))) yes) in
    let mid = (f.read (live end (t ∷ (ts ++ rest)))).1 in
    let on = many_forward f p.reads c n mid in
    let past = forward g q.reads (many_in c f n mid).1 in
    elim (fronts (f.spell x) (spell_many f xs ++ g.spell y) (i ∷ pre) tail k2) [
      | inl r ↦
          let a = p.greedy end x (i ∷ pre) r.0 (t ∷ ts) rest r.1 m in
          omega (arith, a, on, past, once)
      | inr r ↦ more r.0 r.1 r.2 (λ p2 us. many_greedy d f g p q c first apart other behind end xs y p2 tail us rest n) once on past
    ]
  where
    mid : State
    mid = (f.read (live end (t ∷ (ts ++ rest)))).1

    -- the front goes on behind the item, or ends with it
    more : (p2 : List Item) → i ∷ pre ≡ f.spell x ++ p2 → spell_many f xs ++ g.spell y ≡ p2 ++ tail
        → ((p3 : List Item) (ts3 : List TokenShape) → spell_many f xs ++ g.spell y ≡ p3 ++ tail → Matches p3 ts3 → length ts3 ≤ n → left g (many_in c f n (live end (ts3 ++ rest))) ≤ length rest)
        → left g (many_in c f (suc n) (live end (t ∷ (ts ++ rest)))) ≡ left g (onto (f.read (live end (t ∷ (ts ++ rest)))).0 (many_in c f n mid))
        → length (many_in c f n mid).1.rest ≤ length mid.rest → left g (many_in c f n mid) ≤ length (many_in c f n mid).1.rest → left g (many_in c f (suc n) (live end (t ∷ (ts ++ rest)))) ≤ length rest
    more [] whole follows others once on past =
        let same : f.spell x ≡ i ∷ pre = sym (whole ∙ append-nil (f.spell x)) in
        let a = p.greedy end x (i ∷ pre) [] (t ∷ ts) rest (same ∙ sym (append-nil (i ∷ pre))) m in
        omega (arith, a, on, past, once)
    more (j ∷ p2) whole follows others once on past =
        let s = split (f.spell x) (j ∷ p2) (t ∷ ts) (subst (λ is. Matches is (t ∷ ts)) whole m) in
        let clear = avoids_sees d end (j ∷ p2) s.1 rest (avoids_front d j p2 tail (subst (λ is. avoids d is ≡ true) follows (many_avoids d f g apart behind xs y))) s.4 in
        let one = ap (λ y. left g (many_in c f n y.1)) (front_again d f p end x s.0 s.1 (t ∷ ts) rest s.2 clear s.3) in
        let k = nonempty c (f.spell x) s.0 (first x) s.3 in
        let le2 : length s.1 ≤ n = omega (arith, le, k, length-append s.0 s.1, ap length s.2) in
        let a = others (j ∷ p2) s.1 follows s.4 le2 in
        omega (arith, a, once, one)

many_front : {A B : Type 0} (d : Class) (f : Format A) (g : Format B) → IsOpen d f → IsExact g → (c : Class) → ((x : A) → begins c (f.spell x) ≡ true) → ((x : A) → avoids d (f.spell x) ≡ true) → ((y : B) → avoids c (g.spell y) ≡ true) → ((y : B) → avoids d (g.spell y) ≡ true)
    → (end : ℕ) (x : List A × B) (a b ts rest : List TokenShape) → ts ≡ a ++ b → Matches (spell_many f x.0) a → Matches (g.spell x.1) b → (many c f g).read (live end (ts ++ rest)) ≡ (x, live end rest)
many_front d f g p q c first apart other behind end x a b ts rest e m k =
    let no = avoids_sees c end (g.spell x.1) b rest (other x.1) k in
    let clear = avoids_sees d end (g.spell x.1) b rest (behind x.1) k in
    let le : length a ≤ length (ts ++ rest) = omega (arith, length-append ts rest, length-append a b, ap length e) in
    let got : many_at c f (live end (ts ++ rest)) ≡ (x.0, live end (b ++ rest)) =
    ap (λ (y : List TokenShape). many_in c f (length (ts ++ rest)) (live end (y ++ rest))) e
    ∙ ap (λ (y : List TokenShape). many_in c f (length (ts ++ rest)) (live end y)) (append_assoc a b rest)
    ∙ many_again d f p c first apart end x.0 a (b ++ rest) (length (ts ++ rest)) m le no clear in
    ap (λ y. ((y.0, (g.read y.1).0), (g.read y.1).1)) got ∙ ap (λ y. ((x.0, y.0), y.1)) (q.again end x.1 b rest k)

-- items that are open, and then an exact format, which closes the last of them
pub many-open : {A B : Type 0} (c d : Class) {f : Format A} {g : Format B} → IsOpen d f → IsExact g → ((x : A) → begins c (f.spell x) ≡ true) → ((x : A) → avoids d (f.spell x) ≡ true) → ((y : B) → avoids c (g.spell y) ≡ true) → ((y : B) → avoids d (g.spell y) ≡ true) → IsExact (many c f g)
many-open c d {f} {g} p q first apart other behind = record {
  reads = λ s. one_then (spell_many f (many_at c f s).0) (g.spell (g.read (many_at c f s).1).0) s (many_at c f s).1 (g.read (many_at c f s).1).1 (many_reads f p.reads c (weight s) s) (q.reads (many_at c f s).1);
  again = λ end x ts rest m.
      let r = split (spell_many f x.0) (g.spell x.1) ts m in
      many_front d f g p q c first apart other behind end x r.0 r.1 ts rest r.2 r.3 r.4;
  greedy = λ end x pre tail ts rest e m. many_greedy d f g p q c first apart other behind end x.0 x.1 pre tail ts rest (length (ts ++ rest)) e m (omega (arith, length-append ts rest));
}
