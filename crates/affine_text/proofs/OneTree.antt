-- Tokens spell one tree at most.
use Rattle.std.proofs.Common.{◌≡◌, ℕ, List, [], ◌∷◌, codes, Option, Some, None, refl, sym, ap, subst, ◌∙◌, arith}
use Rattle.text_format.specs.declared.front.Kind.{Kind}
use Rattle.text_format.specs.declared.front.Kind.TheVariants as kinds
use Rattle.text_format.specs.Token.{TokenShape}
use Rattle.affine_text.specs.Grammar.{Factor, Name, Number, Negative, Group, Factors, NoFactor, Times, Products, NoProduct, Plus, Minus, Sum, Starts, Items, Empty, From, Declared, Symbols, MapTree, word_at, number_at, mark_at, factor_tokens, factors_tokens, products_tokens, sum_tokens, names_tokens, other_names_tokens, sums_tokens, other_sums_tokens, symbols_tokens, map_tokens}

pub heads : (t u : TokenShape) (ts us : List TokenShape) → t ∷ ts ≡ u ∷ us → t ≡ u
heads t u ts us e = cc

pub tails : (t u : TokenShape) (ts us : List TokenShape) → t ∷ ts ≡ u ∷ us → ts ≡ us
tails t u ts us e = cc

-- a token by a number: a word, a number, or else its first byte
code_by : Kind → List ℕ → ℕ
code_by kinds.Word text = 0
code_by kinds.Number text = 1
code_by k [] = 2
code_by k (b ∷ bs) = b

code : TokenShape → ℕ
code t = code_by t.kind t.text

code_first : ℕ → List TokenShape → ℕ
code_first n [] = n
code_first n (t ∷ ts) = code t

-- the first token, if there is one, has another number
abbrev IsNot : ℕ → List TokenShape → Type 0
IsNot n [] = Unit {0}
IsNot n (t ∷ ts) = code t ≡ n → ⊥

-- no operator comes first
record IsBehind (ts : List TokenShape) : Type 0 where
  times : IsNot 42 ts
  plus : IsNot 43 ts
  minus : IsNot 45 ts

apart : (t : TokenShape) (ts rest : List TokenShape) (n : ℕ) → IsNot n rest → code t ≡ n → rest ≡ t ∷ ts → ⊥
apart t ts rest n h c e = let k : IsNot n (t ∷ ts) = subst (λ (us : List TokenShape). IsNot n us) e h in k c

-- the same in the other order
apart_back : (t : TokenShape) (ts rest : List TokenShape) (n : ℕ) → IsNot n rest → code t ≡ n → t ∷ ts ≡ rest → ⊥
apart_back t ts rest n h c e = apart t ts rest n h c (sym e)

other_token : (t u : TokenShape) (ts us : List TokenShape) → (code t ≡ code u → ⊥) → t ∷ ts ≡ u ∷ us → ⊥
other_token t u ts us h e = h (ap code (heads t u ts us e))

starts : (t u : TokenShape) (ts us : List TokenShape) → t ∷ ts ≡ u ∷ us → t.start ≡ u.start
starts t u ts us e = ap (λ (x : TokenShape). x.start) (heads t u ts us e)

texts : (t u : TokenShape) (ts us : List TokenShape) → t ∷ ts ≡ u ∷ us → t.text ≡ u.text
texts t u ts us e = ap (λ (x : TokenShape). x.text) (heads t u ts us e)

closing_behind : (at : ℕ) (ts : List TokenShape) → IsBehind (mark_at at (codes ")") ∷ ts)
unfolding code code_by
closing_behind at ts = record { times = λ e. absurd (omega (arith, e)); plus = λ e. absurd (omega (arith, e)); minus = λ e. absurd (omega (arith, e)) }

comma_behind : (at : ℕ) (ts : List TokenShape) → IsBehind (mark_at at (codes ",") ∷ ts)
unfolding code code_by
comma_behind at ts = record { times = λ e. absurd (omega (arith, e)); plus = λ e. absurd (omega (arith, e)); minus = λ e. absurd (omega (arith, e)) }

no_times : (ps : Products) (rest : List TokenShape) → IsBehind rest → IsNot 42 (products_tokens ps rest)
unfolding factor_tokens code code_by
no_times NoProduct rest h = h.times
no_times (Plus at f fs ps) rest h = λ e. absurd (omega (arith, e))
no_times (Minus at f fs ps) rest h = λ e. absurd (omega (arith, e))

-- ---- equal parts

abbrev OneFactor : Factor → Factor → List TokenShape → List TokenShape → Type 0
OneFactor f g ts us = (f ≡ g) × (ts ≡ us)

name_same : (at to : ℕ) (text other : List ℕ) → at ≡ to → text ≡ other → Name at text ≡ Name to other
name_same at to text other p q = ap (λ n. Name n text) p ∙ ap (Name to) q

number_same : (at to : ℕ) (text other : List ℕ) → at ≡ to → text ≡ other → Number at text ≡ Number to other
number_same at to text other p q = ap (λ n. Number n text) p ∙ ap (Number to) q

negative_same : (at to : ℕ) (f g : Factor) → at ≡ to → f ≡ g → Negative at f ≡ Negative to g
negative_same at to f g p q = ap (λ n. Negative n f) p ∙ ap (Negative to) q

group_same : (at to : ℕ) (s t : Sum) (close end : ℕ) → at ≡ to → s ≡ t → close ≡ end → Group at s close ≡ Group to t end
group_same at to s t close end p q r = ap (λ n. Group n s close) p ∙ ap (λ x. Group to x close) q ∙ ap (Group to t) r

times_same : (at to : ℕ) (f g : Factor) (fs gs : Factors) → at ≡ to → f ≡ g → fs ≡ gs → Times at f fs ≡ Times to g gs
times_same at to f g fs gs p q r = ap (λ n. Times n f fs) p ∙ ap (λ x. Times to x fs) q ∙ ap (Times to g) r

plus_same : (at to : ℕ) (f g : Factor) (fs gs : Factors) (ps qs : Products) → at ≡ to → f ≡ g → fs ≡ gs → ps ≡ qs → Plus at f fs ps ≡ Plus to g gs qs
plus_same at to f g fs gs ps qs p q r s = ap (λ n. Plus n f fs ps) p ∙ ap (λ x. Plus to x fs ps) q ∙ ap (λ x. Plus to g x ps) r ∙ ap (Plus to g gs) s

minus_same : (at to : ℕ) (f g : Factor) (fs gs : Factors) (ps qs : Products) → at ≡ to → f ≡ g → fs ≡ gs → ps ≡ qs → Minus at f fs ps ≡ Minus to g gs qs
minus_same at to f g fs gs ps qs p q r s = ap (λ n. Minus n f fs ps) p ∙ ap (λ x. Minus to x fs ps) q ∙ ap (λ x. Minus to g x ps) r ∙ ap (Minus to g gs) s

starts_same : (f g : Factor) (fs gs : Factors) (ps qs : Products) → f ≡ g → fs ≡ gs → ps ≡ qs → Starts f fs ps ≡ Starts g gs qs
starts_same f g fs gs ps qs q r s = ap (λ x. Starts x fs ps) q ∙ ap (λ x. Starts g x ps) r ∙ ap (Starts g gs) s

-- ---- expressions

mutual
  unfolding factor_tokens code code_by

  one_factor : (f g : Factor) (ts us : List TokenShape) → factor_tokens f ts ≡ factor_tokens g us → (f ≡ g) × (ts ≡ us)
  one_factor (Name at text) (Name to other) ts us e =
      let t = word_at at text in
      let u = word_at to other in
      (name_same at to text other (starts t u ts us e) (texts t u ts us e), tails t u ts us e)
  one_factor (Number at text) (Number to other) ts us e =
      let t = number_at at text in
      let u = number_at to other in
      (number_same at to text other (starts t u ts us e) (texts t u ts us e), tails t u ts us e)
  one_factor (Negative at f) (Negative to g) ts us e =
      let t = mark_at at (codes "-") in
      let u = mark_at to (codes "-") in
      let h = one_factor f g ts us (tails t u (factor_tokens f ts) (factor_tokens g us) e) in
      (negative_same at to f g (starts t u (factor_tokens f ts) (factor_tokens g us) e) h.0, h.1)
  one_factor (Group at s close) (Group to r end) ts us e =
      let t = mark_at at (codes "(") in
      let u = mark_at to (codes "(") in
      let c = mark_at close (codes ")") in
      let d = mark_at end (codes ")") in
      let h = one_sum s r (c ∷ ts) (d ∷ us) (closing_behind close ts) (closing_behind end us) (tails t u (sum_tokens s (c ∷ ts)) (sum_tokens r (d ∷ us)) e) in
      (group_same at to s r close end (starts t u (sum_tokens s (c ∷ ts)) (sum_tokens r (d ∷ us)) e) h.0 (starts c d ts us h.1), tails c d ts us h.1)
  one_factor (Name at text) (Number to other) ts us e = absurd (other_token (word_at at text) (number_at to other) ts us (λ c. absurd (omega (arith, c))) e)
  one_factor (Name at text) (Negative to g) ts us e = absurd (other_token (word_at at text) (mark_at to (codes "-")) ts (factor_tokens g us) (λ c. absurd (omega (arith, c))) e)
  one_factor (Name at text) (Group to r end) ts us e = absurd (other_token (word_at at text) (mark_at to (codes "(")) ts (sum_tokens r (mark_at end (codes ")") ∷ us)) (λ c. absurd (omega (arith, c))) e)
  one_factor (Number at text) (Name to other) ts us e = absurd (other_token (number_at at text) (word_at to other) ts us (λ c. absurd (omega (arith, c))) e)
  one_factor (Number at text) (Negative to g) ts us e = absurd (other_token (number_at at text) (mark_at to (codes "-")) ts (factor_tokens g us) (λ c. absurd (omega (arith, c))) e)
  one_factor (Number at text) (Group to r end) ts us e = absurd (other_token (number_at at text) (mark_at to (codes "(")) ts (sum_tokens r (mark_at end (codes ")") ∷ us)) (λ c. absurd (omega (arith, c))) e)
  one_factor (Negative at f) (Name to other) ts us e = absurd (other_token (mark_at at (codes "-")) (word_at to other) (factor_tokens f ts) us (λ c. absurd (omega (arith, c))) e)
  one_factor (Negative at f) (Number to other) ts us e = absurd (other_token (mark_at at (codes "-")) (number_at to other) (factor_tokens f ts) us (λ c. absurd (omega (arith, c))) e)
  one_factor (Negative at f) (Group to r end) ts us e = absurd (other_token (mark_at at (codes "-")) (mark_at to (codes "(")) (factor_tokens f ts) (sum_tokens r (mark_at end (codes ")") ∷ us)) (λ c. absurd (omega (arith, c))) e)
  one_factor (Group at s close) (Name to other) ts us e = absurd (other_token (mark_at at (codes "(")) (word_at to other) (sum_tokens s (mark_at close (codes ")") ∷ ts)) us (λ c. absurd (omega (arith, c))) e)
  one_factor (Group at s close) (Number to other) ts us e = absurd (other_token (mark_at at (codes "(")) (number_at to other) (sum_tokens s (mark_at close (codes ")") ∷ ts)) us (λ c. absurd (omega (arith, c))) e)
  one_factor (Group at s close) (Negative to g) ts us e = absurd (other_token (mark_at at (codes "(")) (mark_at to (codes "-")) (sum_tokens s (mark_at close (codes ")") ∷ ts)) (factor_tokens g us) (λ c. absurd (omega (arith, c))) e)

  one_factors : (fs gs : Factors) (ts us : List TokenShape) → IsNot 42 ts → IsNot 42 us → factors_tokens fs ts ≡ factors_tokens gs us → (fs ≡ gs) × (ts ≡ us)
  one_factors NoFactor NoFactor ts us h k e = (refl, e)
  one_factors NoFactor (Times to g gs) ts us h k e = absurd (apart (mark_at to (codes "*")) (factor_tokens g (factors_tokens gs us)) ts 42 h refl e)
  one_factors (Times at f fs) NoFactor ts us h k e = absurd (apart_back (mark_at at (codes "*")) (factor_tokens f (factors_tokens fs ts)) us 42 k refl e)
  one_factors (Times at f fs) (Times to g gs) ts us h k e =
      let t = mark_at at (codes "*") in
      let u = mark_at to (codes "*") in
      let a = factor_tokens f (factors_tokens fs ts) in
      let b = factor_tokens g (factors_tokens gs us) in
      let one = one_factor f g (factors_tokens fs ts) (factors_tokens gs us) (tails t u a b e) in
      let more = one_factors fs gs ts us h k one.1 in
      (times_same at to f g fs gs (starts t u a b e) one.0 more.0, more.1)

  one_products : (ps qs : Products) (ts us : List TokenShape) → IsBehind ts → IsBehind us → products_tokens ps ts ≡ products_tokens qs us → (ps ≡ qs) × (ts ≡ us)
  one_products NoProduct NoProduct ts us h k e = (refl, e)
  one_products NoProduct (Plus to g gs qs) ts us h k e = absurd (apart (mark_at to (codes "+")) (factor_tokens g (factors_tokens gs (products_tokens qs us))) ts 43 h.plus refl e)
  one_products NoProduct (Minus to g gs qs) ts us h k e = absurd (apart (mark_at to (codes "-")) (factor_tokens g (factors_tokens gs (products_tokens qs us))) ts 45 h.minus refl e)
  one_products (Plus at f fs ps) NoProduct ts us h k e = absurd (apart_back (mark_at at (codes "+")) (factor_tokens f (factors_tokens fs (products_tokens ps ts))) us 43 k.plus refl e)
  one_products (Minus at f fs ps) NoProduct ts us h k e = absurd (apart_back (mark_at at (codes "-")) (factor_tokens f (factors_tokens fs (products_tokens ps ts))) us 45 k.minus refl e)
  one_products (Plus at f fs ps) (Minus to g gs qs) ts us h k e =
      absurd (other_token (mark_at at (codes "+")) (mark_at to (codes "-")) (factor_tokens f (factors_tokens fs (products_tokens ps ts))) (factor_tokens g (factors_tokens gs (products_tokens qs us))) (λ c. absurd (omega (arith, c))) e)
  one_products (Minus at f fs ps) (Plus to g gs qs) ts us h k e =
      absurd (other_token (mark_at at (codes "-")) (mark_at to (codes "+")) (factor_tokens f (factors_tokens fs (products_tokens ps ts))) (factor_tokens g (factors_tokens gs (products_tokens qs us))) (λ c. absurd (omega (arith, c))) e)
  one_products (Plus at f fs ps) (Plus to g gs qs) ts us h k e =
      let t = mark_at at (codes "+") in
      let u = mark_at to (codes "+") in
      let a = factor_tokens f (factors_tokens fs (products_tokens ps ts)) in
      let b = factor_tokens g (factors_tokens gs (products_tokens qs us)) in
      let one = one_factor f g (factors_tokens fs (products_tokens ps ts)) (factors_tokens gs (products_tokens qs us)) (tails t u a b e) in
      let two = one_factors fs gs (products_tokens ps ts) (products_tokens qs us) (no_times ps ts h) (no_times qs us k) one.1 in
      let more = one_products ps qs ts us h k two.1 in
      (plus_same at to f g fs gs ps qs (starts t u a b e) one.0 two.0 more.0, more.1)
  one_products (Minus at f fs ps) (Minus to g gs qs) ts us h k e =
      let t = mark_at at (codes "-") in
      let u = mark_at to (codes "-") in
      let a = factor_tokens f (factors_tokens fs (products_tokens ps ts)) in
      let b = factor_tokens g (factors_tokens gs (products_tokens qs us)) in
      let one = one_factor f g (factors_tokens fs (products_tokens ps ts)) (factors_tokens gs (products_tokens qs us)) (tails t u a b e) in
      let two = one_factors fs gs (products_tokens ps ts) (products_tokens qs us) (no_times ps ts h) (no_times qs us k) one.1 in
      let more = one_products ps qs ts us h k two.1 in
      (minus_same at to f g fs gs ps qs (starts t u a b e) one.0 two.0 more.0, more.1)

  one_sum : (s r : Sum) (ts us : List TokenShape) → IsBehind ts → IsBehind us → sum_tokens s ts ≡ sum_tokens r us → (s ≡ r) × (ts ≡ us)
  one_sum (Starts f fs ps) (Starts g gs qs) ts us h k e =
      let one = one_factor f g (factors_tokens fs (products_tokens ps ts)) (factors_tokens gs (products_tokens qs us)) e in
      let two = one_factors fs gs (products_tokens ps ts) (products_tokens qs us) (no_times ps ts h) (no_times qs us k) one.1 in
      let more = one_products ps qs ts us h k two.1 in
      (starts_same f g fs gs ps qs one.0 two.0 more.0, more.1)

-- ---- lists

pair_same : {A : Type 0} (at to : ℕ) (x y : A) (xs ys : List (ℕ × A)) → at ≡ to → x ≡ y → xs ≡ ys → (at, x) ∷ xs ≡ (to, y) ∷ ys
pair_same at to x y xs ys p q r = ap (λ n. (n, x) ∷ xs) p ∙ ap (λ z. (to, z) ∷ xs) q ∙ ap (λ zs. (to, y) ∷ zs) r

from_same : {A : Type 0} (x y : A) (xs ys : List (ℕ × A)) → x ≡ y → xs ≡ ys → From x xs ≡ From y ys
from_same x y xs ys q r = ap (λ z. From z xs) q ∙ ap (λ zs. From y zs) r

declared_same : (d e : Declared) → d.at ≡ e.at → d.name ≡ e.name → d ≡ e
declared_same d e p q = ap (λ n. record { at = n; name = d.name }) p ∙ ap (λ x. record { at = e.at; name = x }) q

-- `text` closes a list: it is a mark and no comma
record Closes (text : List ℕ) : Type 0 where
  comma : (at to : ℕ) → code (mark_at at text) ≡ code (mark_at to (codes ",")) → ⊥
  word : (at to : ℕ) (name : List ℕ) → code (mark_at at text) ≡ code (word_at to name) → ⊥

one_other_names : (text : List ℕ) → Closes text → (ds es : List (ℕ × Declared)) (at to : ℕ) (ts us : List TokenShape) → other_names_tokens ds (mark_at at text ∷ ts) ≡ other_names_tokens es (mark_at to text ∷ us)
    → (ds ≡ es) × (at ≡ to) × (ts ≡ us)
one_other_names text c [] [] at to ts us e = (refl, starts (mark_at at text) (mark_at to text) ts us e, tails (mark_at at text) (mark_at to text) ts us e)
one_other_names text c [] (d ∷ es) at to ts us e = absurd (other_token (mark_at at text) (mark_at d.0 (codes ",")) ts (word_at d.1.at d.1.name ∷ other_names_tokens es (mark_at to text ∷ us)) (c.comma at d.0) e)
one_other_names text c (d ∷ ds) [] at to ts us e = absurd (other_token (mark_at to text) (mark_at d.0 (codes ",")) us (word_at d.1.at d.1.name ∷ other_names_tokens ds (mark_at at text ∷ ts)) (c.comma to d.0) (sym e))
one_other_names text c (d ∷ ds) (f ∷ es) at to ts us e =
    let ks = other_names_tokens ds (mark_at at text ∷ ts) in
    let bs = other_names_tokens es (mark_at to text ∷ us) in
    let w = word_at d.1.at d.1.name in
    let x = word_at f.1.at f.1.name in
    let k = mark_at d.0 (codes ",") in
    let l = mark_at f.0 (codes ",") in
    let r = tails k l (w ∷ ks) (x ∷ bs) e in
    let more = one_other_names text c ds es at to ts us (tails w x ks bs r) in
    (pair_same d.0 f.0 d.1 f.1 ds es (starts k l (w ∷ ks) (x ∷ bs) e) (declared_same d.1 f.1 (starts w x ks bs r) (texts w x ks bs r)) more.0, more.1, more.2)

one_names : (text : List ℕ) → Closes text → (ds es : Items Declared) (at to : ℕ) (ts us : List TokenShape) → names_tokens ds (mark_at at text ∷ ts) ≡ names_tokens es (mark_at to text ∷ us)
    → (ds ≡ es) × (at ≡ to) × (ts ≡ us)
one_names text c Empty Empty at to ts us e = (refl, starts (mark_at at text) (mark_at to text) ts us e, tails (mark_at at text) (mark_at to text) ts us e)
one_names text c Empty (From d es) at to ts us e = absurd (other_token (mark_at at text) (word_at d.at d.name) ts (other_names_tokens es (mark_at to text ∷ us)) (c.word at d.at d.name) e)
one_names text c (From d ds) Empty at to ts us e = absurd (other_token (mark_at to text) (word_at d.at d.name) us (other_names_tokens ds (mark_at at text ∷ ts)) (c.word to d.at d.name) (sym e))
one_names text c (From d ds) (From f es) at to ts us e =
    let ks = other_names_tokens ds (mark_at at text ∷ ts) in
    let bs = other_names_tokens es (mark_at to text ∷ us) in
    let w = word_at d.at d.name in
    let x = word_at f.at f.name in
    let more = one_other_names text c ds es at to ts us (tails w x ks bs e) in
    (from_same d f ds es (declared_same d f (starts w x ks bs e) (texts w x ks bs e)) more.0, more.1, more.2)

parenthesis_closes : Closes (codes ")")
unfolding code code_by
parenthesis_closes = record { comma = λ at to e. absurd (omega (arith, e)); word = λ at to name e. absurd (omega (arith, e)) }

bracket_closes : Closes (codes "]")
unfolding code code_by
bracket_closes = record { comma = λ at to e. absurd (omega (arith, e)); word = λ at to name e. absurd (omega (arith, e)) }

-- a factor doesn't begin with a parenthesis that closes
no_factor : (f : Factor) (at : ℕ) (ts us : List TokenShape) → mark_at at (codes ")") ∷ us ≡ factor_tokens f ts → ⊥
unfolding factor_tokens code code_by
no_factor (Name to text) at ts us e = other_token (mark_at at (codes ")")) (word_at to text) us ts (λ c. absurd (omega (arith, c))) e
no_factor (Number to text) at ts us e = other_token (mark_at at (codes ")")) (number_at to text) us ts (λ c. absurd (omega (arith, c))) e
no_factor (Negative to f) at ts us e = other_token (mark_at at (codes ")")) (mark_at to (codes "-")) us (factor_tokens f ts) (λ c. absurd (omega (arith, c))) e
no_factor (Group to s close) at ts us e = other_token (mark_at at (codes ")")) (mark_at to (codes "(")) us (sum_tokens s (mark_at close (codes ")") ∷ ts)) (λ c. absurd (omega (arith, c))) e

no_sum : (s : Sum) (at : ℕ) (ts us : List TokenShape) → mark_at at (codes ")") ∷ us ≡ sum_tokens s ts → ⊥
unfolding factor_tokens
no_sum (Starts f fs ps) at ts us e = no_factor f at (factors_tokens fs (products_tokens ps ts)) us e

others_behind : (ss : List (ℕ × Sum)) (at : ℕ) (ts : List TokenShape) → IsBehind (other_sums_tokens ss (mark_at at (codes ")") ∷ ts))
others_behind [] at ts = closing_behind at ts
others_behind (s ∷ ss) at ts = comma_behind s.0 (sum_tokens s.1 (other_sums_tokens ss (mark_at at (codes ")") ∷ ts)))

one_other_sums : (ss rs : List (ℕ × Sum)) (at to : ℕ) (ts us : List TokenShape) → other_sums_tokens ss (mark_at at (codes ")") ∷ ts) ≡ other_sums_tokens rs (mark_at to (codes ")") ∷ us) → (ss ≡ rs) × (at ≡ to) × (ts ≡ us)
one_other_sums [] [] at to ts us e = (refl, starts (mark_at at (codes ")")) (mark_at to (codes ")")) ts us e, tails (mark_at at (codes ")")) (mark_at to (codes ")")) ts us e)
one_other_sums [] (r ∷ rs) at to ts us e =
    absurd (other_token (mark_at at (codes ")")) (mark_at r.0 (codes ",")) ts (sum_tokens r.1 (other_sums_tokens rs (mark_at to (codes ")") ∷ us))) (parenthesis_closes.comma at r.0) e)
one_other_sums (s ∷ ss) [] at to ts us e =
    absurd (other_token (mark_at to (codes ")")) (mark_at s.0 (codes ",")) us (sum_tokens s.1 (other_sums_tokens ss (mark_at at (codes ")") ∷ ts))) (parenthesis_closes.comma to s.0) (sym e))
one_other_sums (s ∷ ss) (r ∷ rs) at to ts us e =
    let a = other_sums_tokens ss (mark_at at (codes ")") ∷ ts) in
    let b = other_sums_tokens rs (mark_at to (codes ")") ∷ us) in
    let k = mark_at s.0 (codes ",") in
    let l = mark_at r.0 (codes ",") in
    let one = one_sum s.1 r.1 a b (others_behind ss at ts) (others_behind rs to us) (tails k l (sum_tokens s.1 a) (sum_tokens r.1 b) e) in
    let more = one_other_sums ss rs at to ts us one.1 in
    (pair_same s.0 r.0 s.1 r.1 ss rs (starts k l (sum_tokens s.1 a) (sum_tokens r.1 b) e) one.0 more.0, more.1, more.2)

one_sums : (ss rs : Items Sum) (at to : ℕ) (ts us : List TokenShape) → sums_tokens ss (mark_at at (codes ")") ∷ ts) ≡ sums_tokens rs (mark_at to (codes ")") ∷ us) → (ss ≡ rs) × (at ≡ to) × (ts ≡ us)
one_sums Empty Empty at to ts us e = (refl, starts (mark_at at (codes ")")) (mark_at to (codes ")")) ts us e, tails (mark_at at (codes ")")) (mark_at to (codes ")")) ts us e)
one_sums Empty (From r rs) at to ts us e = absurd (no_sum r at (other_sums_tokens rs (mark_at to (codes ")") ∷ us)) ts e)
one_sums (From s ss) Empty at to ts us e = absurd (no_sum s to (other_sums_tokens ss (mark_at at (codes ")") ∷ ts)) us (sym e))
one_sums (From s ss) (From r rs) at to ts us e =
    let a = other_sums_tokens ss (mark_at at (codes ")") ∷ ts) in
    let b = other_sums_tokens rs (mark_at to (codes ")") ∷ us) in
    let one = one_sum s r a b (others_behind ss at ts) (others_behind rs to us) e in
    let more = one_other_sums ss rs at to ts us one.1 in
    (from_same s r ss rs one.0 more.0, more.1, more.2)

symbols_same : (s r : Symbols) → s.opening ≡ r.opening → s.names ≡ r.names → s.close ≡ r.close → Some s ≡ Some r
symbols_same s r p q t =
    ap (λ n. Some (record { opening = n; names = s.names; close = s.close })) p ∙ ap (λ x. Some (record { opening = r.opening; names = x; close = s.close })) q ∙ ap (λ n. Some (record { opening = r.opening; names = r.names; close = n })) t

one_symbols : (s r : Option Symbols) (at to : ℕ) (ts us : List TokenShape) → symbols_tokens s (mark_at at (codes "->") ∷ ts) ≡ symbols_tokens r (mark_at to (codes "->") ∷ us) → (s ≡ r) × (at ≡ to) × (ts ≡ us)
unfolding code code_by
one_symbols None None at to ts us e = (refl, starts (mark_at at (codes "->")) (mark_at to (codes "->")) ts us e, tails (mark_at at (codes "->")) (mark_at to (codes "->")) ts us e)
one_symbols None (Some r) at to ts us e =
    absurd (other_token (mark_at at (codes "->")) (mark_at r.opening (codes "[")) ts (names_tokens r.names (mark_at r.close (codes "]") ∷ mark_at to (codes "->") ∷ us)) (λ c. absurd (omega (arith, c))) e)
one_symbols (Some s) None at to ts us e =
    absurd (other_token (mark_at to (codes "->")) (mark_at s.opening (codes "[")) us (names_tokens s.names (mark_at s.close (codes "]") ∷ mark_at at (codes "->") ∷ ts)) (λ c. absurd (omega (arith, c))) (sym e))
one_symbols (Some s) (Some r) at to ts us e =
    let t = mark_at at (codes "->") in
    let u = mark_at to (codes "->") in
    let k = mark_at s.opening (codes "[") in
    let l = mark_at r.opening (codes "[") in
    let a = names_tokens s.names (mark_at s.close (codes "]") ∷ t ∷ ts) in
    let b = names_tokens r.names (mark_at r.close (codes "]") ∷ u ∷ us) in
    let h = one_names (codes "]") bracket_closes s.names r.names s.close r.close (t ∷ ts) (u ∷ us) (tails k l a b e) in
    (symbols_same s r (starts k l a b e) h.0 h.1, starts t u ts us h.2, tails t u ts us h.2)

-- ---- maps

-- behind the symbols
one_end : (opening other : ℕ) (ss rs : Items Sum) (close end greater last : ℕ)
    → mark_at opening (codes "(") ∷ sums_tokens ss (mark_at close (codes ")") ∷ mark_at greater (codes ">") ∷ []) ≡ mark_at other (codes "(") ∷ sums_tokens rs (mark_at end (codes ")") ∷ mark_at last (codes ">") ∷ [])
    → (opening ≡ other) × (ss ≡ rs) × (close ≡ end) × (greater ≡ last)
one_end opening other ss rs close end greater last e =
    let k = mark_at opening (codes "(") in
    let l = mark_at other (codes "(") in
    let g = mark_at greater (codes ">") in
    let h = mark_at last (codes ">") in
    let a = sums_tokens ss (mark_at close (codes ")") ∷ g ∷ []) in
    let b = sums_tokens rs (mark_at end (codes ")") ∷ h ∷ []) in
    let s = one_sums ss rs close end (g ∷ []) (h ∷ []) (tails k l a b e) in
    (starts k l a b e, s.0, s.1, starts g h [] [] s.2)

-- trees with the same parts
tree_same : (x y : MapTree) → x.keyword ≡ y.keyword → x.less ≡ y.less → x.open_dimensions ≡ y.open_dimensions → x.dimensions ≡ y.dimensions → x.close_dimensions ≡ y.close_dimensions → x.symbols ≡ y.symbols
    → x.arrow ≡ y.arrow → x.open_results ≡ y.open_results → x.results ≡ y.results → x.close_results ≡ y.close_results → x.greater ≡ y.greater → x ≡ y
tree_same x y a b c d f g h i j k l =
    ap (λ n. record x { keyword = n }) a ∙ ap (λ n. record x { keyword = y.keyword; less = n }) b ∙ ap (λ n. record x { keyword = y.keyword; less = y.less; open_dimensions = n }) c
    ∙ ap (λ n. record x { keyword = y.keyword; less = y.less; open_dimensions = y.open_dimensions; dimensions = n }) d
    ∙ ap (λ n. record x { keyword = y.keyword; less = y.less; open_dimensions = y.open_dimensions; dimensions = y.dimensions; close_dimensions = n }) f
    ∙ ap (λ n. record x { keyword = y.keyword; less = y.less; open_dimensions = y.open_dimensions; dimensions = y.dimensions; close_dimensions = y.close_dimensions; symbols = n }) g
    ∙ ap (λ n. record y { arrow = n; open_results = x.open_results; results = x.results; close_results = x.close_results; greater = x.greater }) h
    ∙ ap (λ n. record y { open_results = n; results = x.results; close_results = x.close_results; greater = x.greater }) i
    ∙ ap (λ n. record y { results = n; close_results = x.close_results; greater = x.greater }) j
    ∙ ap (λ n. record y { close_results = n; greater = x.greater }) k
    ∙ ap (λ n. record y { greater = n }) l

-- the same tokens spell the same tree
pub one_tree : (x y : MapTree) → map_tokens x ≡ map_tokens y → x ≡ y
one_tree x y e =
    let a = mark_at x.open_results (codes "(") ∷ sums_tokens x.results (mark_at x.close_results (codes ")") ∷ mark_at x.greater (codes ">") ∷ []) in
    let b = mark_at y.open_results (codes "(") ∷ sums_tokens y.results (mark_at y.close_results (codes ")") ∷ mark_at y.greater (codes ">") ∷ []) in
    let c = symbols_tokens x.symbols (mark_at x.arrow (codes "->") ∷ a) in
    let d = symbols_tokens y.symbols (mark_at y.arrow (codes "->") ∷ b) in
    let f = names_tokens x.dimensions (mark_at x.close_dimensions (codes ")") ∷ c) in
    let g = names_tokens y.dimensions (mark_at y.close_dimensions (codes ")") ∷ d) in
    let p = mark_at x.open_dimensions (codes "(") in
    let q = mark_at y.open_dimensions (codes "(") in
    let m = mark_at x.less (codes "<") in
    let n = mark_at y.less (codes "<") in
    let k = word_at x.keyword (codes "affine_map") in
    let l = word_at y.keyword (codes "affine_map") in
    let one = tails k l (m ∷ p ∷ f) (n ∷ q ∷ g) e in
    let two = tails m n (p ∷ f) (q ∷ g) one in
    let names = one_names (codes ")") parenthesis_closes x.dimensions y.dimensions x.close_dimensions y.close_dimensions c d (tails p q f g two) in
    let more = one_symbols x.symbols y.symbols x.arrow y.arrow a b names.2 in
    let end = one_end x.open_results y.open_results x.results y.results x.close_results y.close_results x.greater y.greater more.2 in
    tree_same x y (starts k l (m ∷ p ∷ f) (n ∷ q ∷ g) e) (starts m n (p ∷ f) (q ∷ g) one) (starts p q f g two) names.0 names.1 more.0 more.1 end.0 end.1 end.2 end.3
