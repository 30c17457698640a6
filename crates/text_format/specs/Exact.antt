-- The laws of each format but lists: a production's follow from those of its parts.
use Rattle.std.specs.Prelude.{◌≡◌, ◌≤◌, ℕ, Bool, true, false, List, [], ◌∷◌, ◌++◌, length, ◌⊎◌, cond, Option, Some, None}
use Rattle.std.proofs.Common.{refl, sym, ap, subst, ◌∙◌, inl, inr, append_assoc, arith}
use Rattle.std.proofs.lemmas.Bool.{cond-true, cond-false}
use Rattle.text_format.specs.declared.lexeme.Lexeme.{Lexeme}
use Rattle.text_format.specs.declared.class.Class.{Class}
use Rattle.text_format.specs.declared.class.Class.TheVariants.{Exactly}
use Rattle.text_format.specs.Token.{TokenShape}
use Rattle.text_format.specs.Classes.{fits, missing}
use Rattle.text_format.specs.Formats.{State, Stop, Item, Fixed, Leaf, class_of, live, stopped, at_token, at_end, sees, leaf_at, after_fixed, Format, leaf, only, ◌⊗◌, as_record, ◌▸◌, before, spell_either, first_read, second_read, either}
use Rattle.text_format.specs.Laws.{IsItem, Matches, Filled, ConsumesFrom, ConsumesBy, Consumes, IsExact, begins, avoids}
use Rattle.text_format.specs.Apart.{fixed_item, fixed_fits, missing_fits, begins_sees, avoids_sees, begins_front, avoids_front}

-- ---- one after the other

filled_append : (is js : List Item) → Filled is → Filled js → Filled (is ++ js)
filled_append [] js p q = q
filled_append (Fixed l ∷ is) js p q = filled_append is js p q
filled_append (Leaf c u ∷ is) js p q = (p.0, filled_append is js p.1 q)

pub nothing : (o : Option Stop) (end : ℕ) (ts : List TokenShape) → ConsumesBy o end [] ts (record { rest = ts; stop = o; end = end })
nothing None end ts = refl
nothing (Some p) end ts = (tt, refl)

-- where reading has stopped, it stays
stays : (p : Stop) (end : ℕ) (ts : List TokenShape) (is js : List Item) (mid new : State) → Filled is → mid ≡ stopped p end ts → Consumes js mid new → Filled (is ++ js) × (new ≡ stopped p end ts)
stays p end ts is js mid new f e q =
    let r = subst (λ (m : State). Consumes js m new) e q in
    (filled_append is js f r.0, r.1)

then_from : (end : ℕ) (is js : List Item) (ts : List TokenShape) (mid new : State) → ConsumesFrom end is ts mid → Consumes js mid new → ConsumesFrom end (is ++ js) ts new
then_from end [] js ts mid new p q = subst (λ (m : State). Consumes js m new) p q
then_from end (i ∷ is) js [] mid new p q = stays (at_end end) end [] (i ∷ is) js mid new p.0 p.1 q
then_from end (i ∷ is) js (t ∷ ts) mid new (inl p) q = inl (p.0, then_from end is js ts mid new p.1 q)
then_from end (i ∷ is) js (t ∷ ts) mid new (inr p) q =
    let r = stays (at_token (class_of i) t) end (t ∷ ts) (i ∷ is) js mid new p.0 p.2 q in
    inr (r.0, p.1, r.1)

then_by : (o : Option Stop) (end : ℕ) (is js : List Item) (ts : List TokenShape) (mid new : State) → ConsumesBy o end is ts mid → Consumes js mid new → ConsumesBy o end (is ++ js) ts new
then_by None end is js ts mid new p q = then_from end is js ts mid new p q
then_by (Some x) end is js ts mid new p q = stays x end ts is js mid new p.0 p.1 q

pub one_then : (is js : List Item) (old mid new : State) → Consumes is old mid → Consumes js mid new → Consumes (is ++ js) old new
one_then is js old mid new p q = then_by old.stop old.end is js old.rest mid new p q

pub split : (is js : List Item) (ts : List TokenShape) → Matches (is ++ js) ts → (a b : List TokenShape) × (ts ≡ a ++ b) × Matches is a × Matches js b
split [] js ts m = ([], ts, refl, tt, m)
split (i ∷ is) js [] m = absurd m
split (i ∷ is) js (t ∷ ts) m =
    let r = split is js ts m.1 in
    (t ∷ r.0, r.1, ap (λ (x : List TokenShape). t ∷ x) r.2, (m.0, r.3), r.4)

-- a front of two parts ends in the first, or goes on into the second
pub fronts : (xs ys pre tail : List Item) → xs ++ ys ≡ pre ++ tail → ((r : List Item) × (xs ≡ pre ++ r)) ⊎ ((p : List Item) × (pre ≡ xs ++ p) × (ys ≡ p ++ tail))
fronts [] ys pre tail e = inr (pre, refl, e)
fronts (x ∷ xs) ys [] tail e = inl (x ∷ xs, refl)
fronts (x ∷ xs) ys (p ∷ pre) tail e =
    let h : x ≡ p = cc in
    let rest : xs ++ ys ≡ pre ++ tail = cc in
    elim (fronts xs ys pre tail rest) [
      | inl r ↦ inl (r.0, cc (r.1, h))
      | inr r ↦ inr (r.0, cc (r.1, h), r.2)
    ]

pub none_read : (ts : List TokenShape) → Matches [] ts → ts ≡ []
none_read [] m = refl
none_read (t ∷ ts) m = absurd m

-- ---- reading goes forward

pub forward_from : (end : ℕ) (is : List Item) (ts : List TokenShape) (new : State) → ConsumesFrom end is ts new → length new.rest ≤ length ts
forward_from end [] ts new p = rw p (omega arith)
forward_from end (i ∷ is) [] new p = rw p.1 (omega arith)
forward_from end (i ∷ is) (t ∷ ts) new (inl p) = let h = forward_from end is ts new p.1 in omega (arith, h)
forward_from end (i ∷ is) (t ∷ ts) new (inr p) = rw p.2 (omega arith)

pub forward_by : (o : Option Stop) (end : ℕ) (is : List Item) (ts : List TokenShape) (new : State) → ConsumesBy o end is ts new → length new.rest ≤ length ts
forward_by None end is ts new p = forward_from end is ts new p
forward_by (Some x) end is ts new p = rw p.1 (omega arith)

pub goes_forward : {A : Type 0} (f : Format A) → IsExact f → (s : State) → length (f.read s).1.rest ≤ length s.rest
goes_forward f p s = forward_by s.stop s.end (f.spell (f.read s).0) s.rest (f.read s).1 (p.reads s)

-- where nothing was read before
pub from_here : {A : Type 0} (f : Format A) → ((s : State) → length (f.read s).1.rest ≤ length s.rest) → (end : ℕ) (ts rest : List TokenShape) → ts ≡ [] → length (f.read (live end (ts ++ rest))).1.rest ≤ length rest
from_here f forward end ts rest e = let h = forward (live end (ts ++ rest)) in omega (arith, h, ap (λ (y : List TokenShape). length (y ++ rest)) e)

-- f stands at the front
pub read_front : {A : Type 0} (f : Format A) → IsExact f → (end : ℕ) (x : A) (a b ts rest : List TokenShape) → ts ≡ a ++ b → Matches (f.spell x) a → f.read (live end (ts ++ rest)) ≡ (x, live end (b ++ rest))
read_front f p end x a b ts rest e m =
    ap (λ (y : List TokenShape). f.read (live end (y ++ rest))) e ∙ ap (λ (y : List TokenShape). f.read (live end y)) (append_assoc a b rest) ∙ p.again end x a (b ++ rest) m

-- ---- one token

leaf_step : (b : Bool) (c : Class) (end : ℕ) (t : TokenShape) (ts : List TokenShape) → fits c t ≡ b
    → let r : TokenShape × State = cond b (t, live end ts) (missing c t.start, stopped (at_token c t) end (t ∷ ts)) in ConsumesFrom end (Leaf c r.0 ∷ []) (t ∷ ts) r.1
leaf_step true c end t ts e = inl ((e, refl), refl)
leaf_step false c end t ts e = inr ((missing_fits c t.start, tt), e, refl)

leaf_reads : (o : Option Stop) (c : Class) (end : ℕ) (ts : List TokenShape) → let r = leaf_at c (record { rest = ts; stop = o; end = end }) in ConsumesBy o end (Leaf c r.0 ∷ []) ts r.1
unfolding leaf_at
leaf_reads (Some p) c end ts = ((missing_fits c p.at, tt), refl)
leaf_reads None c end [] = ((missing_fits c end, tt), refl)
leaf_reads None c end (t ∷ ts) = leaf_step (fits c t) c end t ts refl

fixed_step : (b : Bool) (l : Lexeme) (end : ℕ) (t : TokenShape) (ts : List TokenShape) → fits (Exactly l) t ≡ b
    → let r : TokenShape × State = cond b (t, live end ts) (missing (Exactly l) t.start, stopped (at_token (Exactly l) t) end (t ∷ ts)) in ConsumesFrom end (Fixed l ∷ []) (t ∷ ts) r.1
fixed_step true l end t ts e = inl (fixed_item l t e, refl)
fixed_step false l end t ts e = inr (tt, e, refl)

fixed_reads : (o : Option Stop) (l : Lexeme) (end : ℕ) (ts : List TokenShape) → ConsumesBy o end (Fixed l ∷ []) ts (after_fixed l (record { rest = ts; stop = o; end = end }))
unfolding leaf_at
fixed_reads (Some p) l end ts = (tt, refl)
fixed_reads None l end [] = (tt, refl)
fixed_reads None l end (t ∷ ts) = fixed_step (fits (Exactly l) t) l end t ts refl

leaf_front : (c : Class) (end : ℕ) (t : TokenShape) (ts : List TokenShape) → fits c t ≡ true → leaf_at c (live end (t ∷ ts)) ≡ (t, live end ts)
unfolding leaf_at
leaf_front c end t ts e = cond-true (fits c t) (t, live end ts) (missing c t.start, stopped (at_token c t) end (t ∷ ts)) e

pub fixed_again : (l : Lexeme) (end : ℕ) (t : TokenShape) (ts : List TokenShape) → IsItem (Fixed l) t → after_fixed l (live end (t ∷ ts)) ≡ live end ts
fixed_again l end t ts p = ap (λ y. y.1) (leaf_front (Exactly l) end t ts (fixed_fits l t p))

leaf_again : (c : Class) (end : ℕ) (u : TokenShape) (ts rest : List TokenShape) → Matches (Leaf c u ∷ []) ts → leaf_at c (live end (ts ++ rest)) ≡ (u, live end rest)
leaf_again c end u [] rest m = absurd m
leaf_again c end u (t ∷ v ∷ ts) rest m = absurd m.1
leaf_again c end u (t ∷ []) rest m = leaf_front c end t rest m.0.0 ∙ ap (λ (w : TokenShape). (w, live end rest)) m.0.1

only_again : (l : Lexeme) (end : ℕ) (ts rest : List TokenShape) → Matches (Fixed l ∷ []) ts → after_fixed l (live end (ts ++ rest)) ≡ live end rest
only_again l end [] rest m = absurd m
only_again l end (t ∷ v ∷ ts) rest m = absurd m.1
only_again l end (t ∷ []) rest m = fixed_again l end t rest m.0

-- a format of one item
one_greedy : {A : Type 0} (f : Format A) (item : A → Item) → ((x : A) → f.spell x ≡ item x ∷ [])
    → ((s : State) → length (f.read s).1.rest ≤ length s.rest) → ((end : ℕ) (x : A) (ts rest : List TokenShape) → Matches (f.spell x) ts → f.read (live end (ts ++ rest)) ≡ (x, live end rest))
    → (end : ℕ) (x : A) (pre tail : List Item) (ts rest : List TokenShape) → f.spell x ≡ pre ++ tail → Matches pre ts → length (f.read (live end (ts ++ rest))).1.rest ≤ length rest
one_greedy f item one forward again end x [] tail ts rest e m = from_here f forward end ts rest (none_read ts m)
one_greedy f item one forward again end x (p ∷ q ∷ pre) tail ts rest e m = absurd (cc (sym (one x) ∙ e))
one_greedy f item one forward again end x (p ∷ []) tail ts rest e m =
    let h : p ≡ item x = cc (sym (one x) ∙ e) in
    let k = again end x ts rest (subst (λ is. Matches is ts) (ap (λ i. i ∷ []) h ∙ sym (one x)) m) in
    rw k (omega arith)

pub leaf-exact : (c : Class) → IsExact (leaf c)
leaf-exact c = record {
  reads = λ s. leaf_reads s.stop c s.end s.rest;
  again = λ end x ts rest m. leaf_again c end x ts rest m;
  greedy = one_greedy (leaf c) (λ u. Leaf c u) (λ u. refl) (λ s. forward_by s.stop s.end (Leaf c (leaf_at c s).0 ∷ []) s.rest (leaf_at c s).1 (leaf_reads s.stop c s.end s.rest)) (λ end x ts rest m. leaf_again c end x ts rest m);
}

pub only-exact : (l : Lexeme) → IsExact (only l)
only-exact l = record {
  reads = λ s. fixed_reads s.stop l s.end s.rest;
  again = λ end x ts rest m. ap (λ (y : State). (tt, y)) (only_again l end ts rest m);
  greedy = one_greedy (only l) (λ _. Fixed l) (λ u. refl) (λ s. forward_by s.stop s.end (Fixed l ∷ []) s.rest (after_fixed l s) (fixed_reads s.stop l s.end s.rest)) (λ end x ts rest m. ap (λ (y : State). (tt, y)) (only_again l end ts rest m));
}

-- ---- two formats

pair_greedy : {A B : Type 0} (f : Format A) (g : Format B) → IsExact f → IsExact g
    → (end : ℕ) (x : A × B) (pre tail : List Item) (ts rest : List TokenShape) → f.spell x.0 ++ g.spell x.1 ≡ pre ++ tail → Matches pre ts → length ((f ⊗ g).read (live end (ts ++ rest))).1.rest ≤ length rest
pair_greedy f g p q end x pre tail ts rest e m =
    elim (fronts (f.spell x.0) (g.spell x.1) pre tail e) [
      | inl r ↦
          let h = p.greedy end x.0 pre r.0 ts rest r.1 m in
          let k = goes_forward g q (f.read (live end (ts ++ rest))).1 in
          omega (arith, h, k)
      | inr r ↦
          let s = split (f.spell x.0) r.0 ts (subst (λ is. Matches is ts) r.1 m) in
          let one = read_front f p end x.0 s.0 s.1 ts rest s.2 s.3 in
          let h = q.greedy end x.1 r.0 tail s.1 rest r.2 s.4 in
          let k : length (g.read (f.read (live end (ts ++ rest))).1).1.rest ≡ length (g.read (live end (s.1 ++ rest))).1.rest = ap (λ y. length (g.read y.1).1.rest) one in
          omega (arith, h, k)
    ]

infixr 22 ◌⊠◌
pub ◌⊠◌ : {A B : Type 0} {f : Format A} {g : Format B} → IsExact f → IsExact g → IsExact (f ⊗ g)
◌⊠◌ {A} {B} {f} {g} p q = record {
  reads = λ s. one_then (f.spell (f.read s).0) (g.spell (g.read (f.read s).1).0) s (f.read s).1 (g.read (f.read s).1).1 (p.reads s) (q.reads (f.read s).1);
  again = λ end x ts rest m.
      let r = split (f.spell x.0) (g.spell x.1) ts m in
      let e = read_front f p end x.0 r.0 r.1 ts rest r.2 r.3 in
      ap (λ y. ((y.0, (g.read y.1).0), (g.read y.1).1)) e ∙ ap (λ y. ((x.0, y.0), y.1)) (q.again end x.1 r.1 rest r.4);
  greedy = λ end x pre tail ts rest e m. pair_greedy f g p q end x pre tail ts rest e m;
}

pub record-exact : {A B : Type 0} (make : A → B) (parts : B → A) (f : Format A) → ((x : A) → parts (make x) ≡ x) → ((y : B) → make (parts y) ≡ y) → IsExact f → IsExact (as_record make parts f)
record-exact make parts f back forth p = record {
  reads = λ s. subst (λ x. Consumes (f.spell x) s (f.read s).1) (sym (back (f.read s).0)) (p.reads s);
  again = λ end y ts rest m. ap (λ r. (make r.0, r.1)) (p.again end (parts y) ts rest m) ∙ ap (λ z. (z, live end rest)) (forth y);
  greedy = λ end y pre tail ts rest e m. p.greedy end (parts y) pre tail ts rest e m;
}

infixr 22 ◌▹◌
pub ◌▹◌ : {A : Type 0} (l : Lexeme) {f : Format A} → IsExact f → IsExact (l ▸ f)
◌▹◌ {A} l {f} p = record-exact (λ x. x.1) (λ y. (tt, y)) (only l ⊗ f) (λ x. refl) (λ y. refl) (only-exact l ⊠ p)

pub before-exact : {A : Type 0} (l : Lexeme) {f : Format A} → IsExact f → IsExact (before l f)
before-exact l {f} p = record-exact (λ x. x.0) (λ y. (y, tt)) (f ⊗ only l) (λ x. refl) (λ y. refl) (p ⊠ only-exact l)

-- ---- one of two

either_step : {A B : Type 0} (f : Format A) (g : Format B) (s : State) (x : A × State) (y : B × State) (b : Bool) → Consumes (f.spell x.0) s x.1 → Consumes (g.spell y.0) s y.1
    → let r : (A ⊎ B) × State = cond b (first_read x) (second_read y) in Consumes (spell_either f g r.0) s r.1
either_step f g s x y true p q = p
either_step f g s x y false p q = q

either_first : {A B : Type 0} (c : Class) (f : Format A) (g : Format B) (s : State) → sees c s ≡ true → (either c f g).read s ≡ first_read (f.read s)
either_first c f g s e = cond-true (sees c s) _ _ e

either_second : {A B : Type 0} (c : Class) (f : Format A) (g : Format B) (s : State) → sees c s ≡ false → (either c f g).read s ≡ second_read (g.read s)
either_second c f g s e = cond-false (sees c s) _ _ e

either_again : {A B : Type 0} (c : Class) (f : Format A) (g : Format B) → IsExact f → IsExact g → ((x : A) → begins c (f.spell x) ≡ true) → ((y : B) → avoids c (g.spell y) ≡ true)
    → (end : ℕ) (z : A ⊎ B) (ts rest : List TokenShape) → Matches (spell_either f g z) ts → (either c f g).read (live end (ts ++ rest)) ≡ (z, live end rest)
either_again c f g p q first other end (inl x) ts rest m = either_first c f g (live end (ts ++ rest)) (begins_sees c end (f.spell x) ts rest (first x) m) ∙ ap first_read (p.again end x ts rest m)
either_again c f g p q first other end (inr y) ts rest m = either_second c f g (live end (ts ++ rest)) (avoids_sees c end (g.spell y) ts rest (other y) m) ∙ ap second_read (q.again end y ts rest m)

either_forward : {A B : Type 0} (c : Class) (f : Format A) (g : Format B) → IsExact f → IsExact g → (s : State) → length ((either c f g).read s).1.rest ≤ length s.rest
either_forward c f g p q s = forward_by s.stop s.end (spell_either f g ((either c f g).read s).0) s.rest ((either c f g).read s).1 (either_step f g s (f.read s) (g.read s) (sees c s) (p.reads s) (q.reads s))

either_greedy : {A B : Type 0} (c : Class) (f : Format A) (g : Format B) → IsExact f → IsExact g → ((x : A) → begins c (f.spell x) ≡ true) → ((y : B) → avoids c (g.spell y) ≡ true)
    → (end : ℕ) (z : A ⊎ B) (pre tail : List Item) (ts rest : List TokenShape) → spell_either f g z ≡ pre ++ tail → Matches pre ts → length ((either c f g).read (live end (ts ++ rest))).1.rest ≤ length rest
either_greedy c f g p q first other end z [] tail ts rest e m = from_here (either c f g) (either_forward c f g p q) end ts rest (none_read ts m)
either_greedy c f g p q first other end z (i ∷ pre) tail [] rest e m = absurd m
either_greedy c f g p q first other end (inl x) (i ∷ pre) tail (t ∷ ts) rest e m =
    let b = subst (λ is. begins c is ≡ true) e (first x) in
    let k = ap (λ y. length y.1.rest) (either_first c f g (live end (t ∷ (ts ++ rest))) (begins_sees c end (i ∷ pre) (t ∷ ts) rest (begins_front c i pre tail b) m)) in
    let h = p.greedy end x (i ∷ pre) tail (t ∷ ts) rest e m in
    omega (arith, h, k)
either_greedy c f g p q first other end (inr y) (i ∷ pre) tail (t ∷ ts) rest e m =
    let b = subst (λ is. avoids c is ≡ true) e (other y) in
    let k = ap (λ y. length y.1.rest) (either_second c f g (live end (t ∷ (ts ++ rest))) (avoids_sees c end (i ∷ pre) (t ∷ ts) rest (avoids_front c i pre tail b) m)) in
    let h = q.greedy end y (i ∷ pre) tail (t ∷ ts) rest e m in
    omega (arith, h, k)

pub either-exact : {A B : Type 0} (c : Class) {f : Format A} {g : Format B} → IsExact f → IsExact g → ((x : A) → begins c (f.spell x) ≡ true) → ((y : B) → avoids c (g.spell y) ≡ true) → IsExact (either c f g)
either-exact c {f} {g} p q first other = record {
  reads = λ s. either_step f g s (f.read s) (g.read s) (sees c s) (p.reads s) (q.reads s);
  again = λ end z ts rest m. either_again c f g p q first other end z ts rest m;
  greedy = λ end z pre tail ts rest e m. either_greedy c f g p q first other end z pre tail ts rest e m;
}

-- ---- each leaf of a tree that was read is of its class

taken_filled : (i : Item) (t : TokenShape) (is : List Item) → IsItem i t → Filled is → Filled (i ∷ is)
taken_filled (Fixed l) t is p q = q
taken_filled (Leaf c u) t is p q = (subst (λ v. fits c v ≡ true) p.1 p.0, q)

filled_from : (end : ℕ) (is : List Item) (ts : List TokenShape) (new : State) → ConsumesFrom end is ts new → Filled is
filled_from end [] ts new p = tt
filled_from end (i ∷ is) [] new p = p.0
filled_from end (i ∷ is) (t ∷ ts) new (inl p) = taken_filled i t is p.0 (filled_from end is ts new p.1)
filled_from end (i ∷ is) (t ∷ ts) new (inr p) = p.0

filled_by : (o : Option Stop) (end : ℕ) (is : List Item) (ts : List TokenShape) (new : State) → ConsumesBy o end is ts new → Filled is
filled_by None end is ts new p = filled_from end is ts new p
filled_by (Some x) end is ts new p = p.0

pub is_filled : {A : Type 0} (f : Format A) → IsExact f → (s : State) → Filled (f.spell (f.read s).0)
is_filled f p s = filled_by s.stop s.end (f.spell (f.read s).0) s.rest (f.read s).1 (p.reads s)
