-- Sums with their terms collected, one term at a time.
use Rattle.std.proofs.Common.{◌≡◌, ℕ, ◌+◌, ◌^◌, ◌<◌, ◌≤◌, suc, Bool, true, false, cond, ◌&&◌, List, [], ◌∷◌, length, drop, get_or, ℤ, pos, ◌+ℤ◌, ◌*ℤ◌, unsigned_abs, nat_le, Some, unwrap_or, Ok, refl, sym, ap, subst, ◌∙◌, arith}
use Rattle.std.specs.Ordering.{nat_cmp, is_eq, match_ordering}
use Rattle.std.specs.Cmp.{nat_cmp_is}
use Rattle.std.specs.declared.cmp.Ordering.{Ordering}
use Rattle.std.specs.declared.cmp.Ordering.TheVariants.{Less, Equal, Greater}
use Rattle.std.specs.Map.{lookup, remove_entry, keys_of}
use Rattle.std.specs.List.{AllByRecursion}
use Rattle.std.specs.List.Sorted.{IsStrictlySortedBy}
use Rattle.std.specs.BTreeMap.{insert_entry, is_at}
use Rattle.std.proofs.Math.Seq.{drop-cons}
use Rattle.std.proofs.Math.ListN.{drop_of_length-le}
use Rattle.std.proofs.lemmas.Map.Lookups.{exact_unsigned}
use Rattle.std.proofs.lemmas.Bool.{cond-true, cond-false, and_parts, and_from, le-leb, leb-false, eqb-false, leb-true, eqb-true}
use Rattle.mlir_base.specs.Numbers.{is_in_range, is_coefficient}
use Rattle.affine_maps.specs.declared.map.Expr.{Expr}
use Rattle.affine_text.specs.Collected.{is_zero, coefficient, with_coefficient, plus_term, plus_terms, terms_in_range, form_in_range}
use Rattle.affine_text.specs.Multiples.{ascends, are_coefficients, is_sum, is_collected, times_terms, with_terms, AddsTerm, AddsTerms}

abbrev Terms : Type 0
Terms = List (ℕ × ℤ)

abbrev at_key : ℕ → ℕ → Bool
at_key q = is_at (nat_cmp q)

-- ---- look-ups

same_key : (q k : ℕ) → at_key q k ≡ true → q ≡ k
same_key q k e = same_by (nat_cmp q k) refl e where
  same_by : (o : Ordering) → nat_cmp q k ≡ o → is_eq o ≡ true → q ≡ k
  same_by Equal c e = exact_unsigned q k c
  same_by Less c e = absurd cc
  same_by Greater c e = absurd cc

apart_key : (q k : ℕ) → (q ≡ k → ⊥) → at_key q k ≡ false
apart_key q k n = apart_by (at_key q k) refl where
  apart_by : (b : Bool) → at_key q k ≡ b → b ≡ false
  apart_by true e = absurd (n (same_key q k e))
  apart_by false e = refl

insert_other : (ts : Terms) (k q : ℕ) (v : ℤ) → (q ≡ k → ⊥) → lookup (at_key q) (insert_entry nat_cmp ts k v) ≡ lookup (at_key q) ts
insert_other [] k q v n = cond-false (at_key q k) _ _ (apart_key q k n)
insert_other (t ∷ ts) k q v n = insert_by (nat_cmp k t.0) (insert_other ts k q v n) refl where
  insert_by : (o : Ordering) → lookup (at_key q) (insert_entry nat_cmp ts k v) ≡ lookup (at_key q) ts → nat_cmp k t.0 ≡ o → lookup (at_key q) (match_ordering o ((k, v) ∷ t ∷ ts) ((t.0, v) ∷ ts) (t ∷ insert_entry nat_cmp ts k v)) ≡ lookup (at_key q) (t ∷ ts)
  insert_by Less ih e = cond-false (at_key q k) _ _ (apart_key q k n)
  insert_by Equal ih e =
      let other : at_key q t.0 ≡ false = apart_key q t.0 (λ h. n (h ∙ sym (exact_unsigned k t.0 e))) in
      cond-false (at_key q t.0) _ _ other ∙ sym (cond-false (at_key q t.0) _ _ other)
  insert_by Greater ih e = ap (λ o. cond (at_key q t.0) (Some t.1) o) ih

self_key : (k : ℕ) → at_key k k ≡ true
self_key k = ap is_eq (sym (nat_cmp_is k k Equal refl))

insert_same : (ts : Terms) (k : ℕ) (v : ℤ) → lookup (at_key k) (insert_entry nat_cmp ts k v) ≡ Some v
insert_same [] k v = cond-true (at_key k k) _ _ (self_key k)
insert_same (t ∷ ts) k v = insert_by (nat_cmp k t.0) (insert_same ts k v) refl where
  insert_by : (o : Ordering) → lookup (at_key k) (insert_entry nat_cmp ts k v) ≡ Some v → nat_cmp k t.0 ≡ o → lookup (at_key k) (match_ordering o ((k, v) ∷ t ∷ ts) ((t.0, v) ∷ ts) (t ∷ insert_entry nat_cmp ts k v)) ≡ Some v
  insert_by Less ih e = cond-true (at_key k k) _ _ (self_key k)
  insert_by Equal ih e = cond-true (at_key k t.0) _ _ (ap is_eq e)
  insert_by Greater ih e = cond-false (at_key k t.0) _ _ (ap is_eq e) ∙ ih

remove_other : (ts : Terms) (k q : ℕ) → (q ≡ k → ⊥) → lookup (at_key q) (remove_entry (at_key k) ts) ≡ lookup (at_key q) ts
remove_other [] k q n = refl
remove_other (t ∷ ts) k q n = remove_by (at_key k t.0) (remove_other ts k q n) refl where
  remove_by : (b : Bool) → lookup (at_key q) (remove_entry (at_key k) ts) ≡ lookup (at_key q) ts → at_key k t.0 ≡ b → lookup (at_key q) (cond b ts (t ∷ remove_entry (at_key k) ts)) ≡ lookup (at_key q) (t ∷ ts)
  remove_by true ih e = sym (cond-false (at_key q t.0) _ _ (apart_key q t.0 (λ h. n (h ∙ sym (same_key k t.0 e)))))
  remove_by false ih e = ap (λ o. cond (at_key q t.0) (Some t.1) o) ih

-- ---- coefficients

with_by : (ts : Terms) (k q : ℕ) (c : ℤ) (b : Bool) → (q ≡ k → ⊥) → lookup (at_key q) (cond b (remove_entry (at_key k) ts) (insert_entry nat_cmp ts k c)) ≡ lookup (at_key q) ts
with_by ts k q c true n = remove_other ts k q n
with_by ts k q c false n = insert_other ts k q c n

with_other : (ts : Terms) (k q : ℕ) (c : ℤ) → (q ≡ k → ⊥) → coefficient (with_coefficient ts k c) q ≡ coefficient ts q
unfolding coefficient with_coefficient
with_other ts k q c n = ap (λ o. unwrap_or o (pos 0)) (with_by ts k q c (is_zero c) n)

plus_other : (ts : Terms) (k q : ℕ) (c : ℤ) → (q ≡ k → ⊥) → coefficient (plus_term ts k c) q ≡ coefficient ts q
unfolding plus_term
plus_other ts k q c n = with_other ts k q (coefficient ts k +ℤ c) n

-- what is out of range isn't 0
far_other : (z : ℤ) → is_in_range z ≡ false → is_zero z ≡ false
far_other z e = far_by (is_zero z) refl where
  far_by : (b : Bool) → is_zero z ≡ b → b ≡ false
  far_by true h = let n = eqb-true (unsigned_abs z) 0 h in absurd (cc (sym e ∙ ap (λ m. nat_le m (2 ^ 31)) n))
  far_by false h = refl

with_same : (ts : Terms) (k : ℕ) (c : ℤ) → is_in_range c ≡ false → coefficient (with_coefficient ts k c) k ≡ c
unfolding coefficient with_coefficient
with_same ts k c e =
    ap (λ us. unwrap_or (lookup (at_key k) us) (pos 0)) (cond-false (is_zero c) (remove_entry (at_key k) ts) (insert_entry nat_cmp ts k c) (far_other c e)) ∙ ap (λ o. unwrap_or o (pos 0)) (insert_same ts k c)

-- a sum in range has its coefficients in range
lookup_in : (ts : Terms) (k : ℕ) → terms_in_range ts ≡ true → is_in_range (unwrap_or (lookup (at_key k) ts) (pos 0)) ≡ true
lookup_in [] k h = refl
lookup_in (t ∷ ts) k h = lookup_by (at_key k t.0) (lookup_in ts k (and_parts (is_in_range t.1) (terms_in_range ts) h).1) where
  lookup_by : (b : Bool) → is_in_range (unwrap_or (lookup (at_key k) ts) (pos 0)) ≡ true → is_in_range (unwrap_or (cond b (Some t.1) (lookup (at_key k) ts)) (pos 0)) ≡ true
  lookup_by true ih = (and_parts (is_in_range t.1) (terms_in_range ts) h).0
  lookup_by false ih = ih

pub coefficient_in : (ts : Terms) (k : ℕ) → terms_in_range ts ≡ true → is_in_range (coefficient ts k) ≡ true
unfolding coefficient
coefficient_in ts k h = lookup_in ts k h

insert_in : (ts : Terms) (k : ℕ) (v : ℤ) → terms_in_range ts ≡ true → is_in_range v ≡ true → terms_in_range (insert_entry nat_cmp ts k v) ≡ true
insert_in [] k v h r = and_from (is_in_range v) true r refl
insert_in (t ∷ ts) k v h r = insert_by (nat_cmp k t.0) (insert_in ts k v (and_parts (is_in_range t.1) (terms_in_range ts) h).1 r) where
  insert_by : (o : Ordering) → terms_in_range (insert_entry nat_cmp ts k v) ≡ true → terms_in_range (match_ordering o ((k, v) ∷ t ∷ ts) ((t.0, v) ∷ ts) (t ∷ insert_entry nat_cmp ts k v)) ≡ true
  insert_by Less ih = and_from (is_in_range v) (terms_in_range (t ∷ ts)) r h
  insert_by Equal ih = and_from (is_in_range v) (terms_in_range ts) r (and_parts (is_in_range t.1) (terms_in_range ts) h).1
  insert_by Greater ih =
      let p = and_parts (is_in_range t.1) (terms_in_range ts) h in
      and_from (is_in_range t.1) (terms_in_range (insert_entry nat_cmp ts k v)) p.0 ih

remove_in : (ts : Terms) (k : ℕ) → terms_in_range ts ≡ true → terms_in_range (remove_entry (at_key k) ts) ≡ true
remove_in [] k h = refl
remove_in (t ∷ ts) k h = remove_by (at_key k t.0) (remove_in ts k (and_parts (is_in_range t.1) (terms_in_range ts) h).1) where
  remove_by : (b : Bool) → terms_in_range (remove_entry (at_key k) ts) ≡ true → terms_in_range (cond b ts (t ∷ remove_entry (at_key k) ts)) ≡ true
  remove_by true ih = (and_parts (is_in_range t.1) (terms_in_range ts) h).1
  remove_by false ih =
      let p = and_parts (is_in_range t.1) (terms_in_range ts) h in
      and_from (is_in_range t.1) (terms_in_range (remove_entry (at_key k) ts)) p.0 ih

pub insert_coefficient : (ts : Terms) (k : ℕ) (v : ℤ) → are_coefficients ts ≡ true → is_coefficient v ≡ true → are_coefficients (insert_entry nat_cmp ts k v) ≡ true
insert_coefficient [] k v h r = and_from (is_coefficient v) true r refl
insert_coefficient (t ∷ ts) k v h r = insert_by (nat_cmp k t.0) (insert_coefficient ts k v (and_parts (is_coefficient t.1) (are_coefficients ts) h).1 r) where
  insert_by : (o : Ordering) → are_coefficients (insert_entry nat_cmp ts k v) ≡ true → are_coefficients (match_ordering o ((k, v) ∷ t ∷ ts) ((t.0, v) ∷ ts) (t ∷ insert_entry nat_cmp ts k v)) ≡ true
  insert_by Less ih = and_from (is_coefficient v) (are_coefficients (t ∷ ts)) r h
  insert_by Equal ih = and_from (is_coefficient v) (are_coefficients ts) r (and_parts (is_coefficient t.1) (are_coefficients ts) h).1
  insert_by Greater ih =
      let p = and_parts (is_coefficient t.1) (are_coefficients ts) h in
      and_from (is_coefficient t.1) (are_coefficients (insert_entry nat_cmp ts k v)) p.0 ih

pub remove_coefficient : (ts : Terms) (k : ℕ) → are_coefficients ts ≡ true → are_coefficients (remove_entry (at_key k) ts) ≡ true
remove_coefficient [] k h = refl
remove_coefficient (t ∷ ts) k h = remove_by (at_key k t.0) (remove_coefficient ts k (and_parts (is_coefficient t.1) (are_coefficients ts) h).1) where
  remove_by : (b : Bool) → are_coefficients (remove_entry (at_key k) ts) ≡ true → are_coefficients (cond b ts (t ∷ remove_entry (at_key k) ts)) ≡ true
  remove_by true ih = (and_parts (is_coefficient t.1) (are_coefficients ts) h).1
  remove_by false ih =
      let p = and_parts (is_coefficient t.1) (are_coefficients ts) h in
      and_from (is_coefficient t.1) (are_coefficients (remove_entry (at_key k) ts)) p.0 ih

-- what is a coefficient is in range
pub coefficients_in : (ts : Terms) → are_coefficients ts ≡ true → terms_in_range ts ≡ true
coefficients_in [] h = refl
coefficients_in (t ∷ ts) h =
    let p = and_parts (is_coefficient t.1) (are_coefficients ts) h in
    let q = and_parts (nat_le 1 (unsigned_abs t.1)) (is_in_range t.1) p.0 in
    and_from (is_in_range t.1) (terms_in_range ts) q.1 (coefficients_in ts p.1)

with_in_by : (ts : Terms) (k : ℕ) (c : ℤ) (b : Bool) → terms_in_range ts ≡ true → is_in_range c ≡ true → terms_in_range (cond b (remove_entry (at_key k) ts) (insert_entry nat_cmp ts k c)) ≡ true
with_in_by ts k c true h r = remove_in ts k h
with_in_by ts k c false h r = insert_in ts k c h r

pub with_in : (ts : Terms) (k : ℕ) (c : ℤ) → terms_in_range ts ≡ true → is_in_range c ≡ true → terms_in_range (with_coefficient ts k c) ≡ true
unfolding with_coefficient
with_in ts k c h r = with_in_by ts k c (is_zero c) h r

-- ---- a coefficient that is out of range stays so

later : (ts us : Terms) (k low : ℕ) → ascends low us ≡ true → k < low → coefficient (plus_terms ts us) k ≡ coefficient ts k
unfolding plus_terms
later ts [] k low a h = refl
later ts (u ∷ us) k low a h =
    let p = and_parts (nat_le low u.0) (ascends (u.0 + 1) us) a in
    let below : low ≤ u.0 = leb-true low u.0 p.0 in
    later (plus_term ts u.0 u.1) us k (u.0 + 1) p.1 (omega (arith, below, h)) ∙ plus_other ts u.0 k u.1 (λ e. absurd (omega (arith, e, below, h)))

not_in : (ts : Terms) (k : ℕ) → is_in_range (coefficient ts k) ≡ false → terms_in_range ts ≡ false
not_in ts k e = not_by (terms_in_range ts) refl where
  not_by : (b : Bool) → terms_in_range ts ≡ b → b ≡ false
  not_by true h = absurd (cc (sym (coefficient_in ts k h) ∙ e))
  not_by false h = refl

-- the term brings a coefficient out of range
pub stays_far : (ts us : Terms) (k : ℕ) (c : ℤ) → ascends (k + 1) us ≡ true → is_in_range (coefficient ts k +ℤ c) ≡ false → terms_in_range (plus_terms (plus_term ts k c) us) ≡ false
unfolding plus_term
stays_far ts us k c a e =
    not_in (plus_terms (plus_term ts k c) us) k
    (ap is_in_range (later (plus_term ts k c) us k (k + 1) a (omega arith) ∙ with_same ts k (coefficient ts k +ℤ c) e) ∙ e)

-- ---- sums

pub sum_constant : (e : Expr) → is_sum e ≡ true → is_in_range e.constant ≡ true
sum_constant e h = (and_parts (is_in_range e.constant) (are_coefficients e.terms) h).0

pub sum_coefficients : (e : Expr) → is_sum e ≡ true → are_coefficients e.terms ≡ true
sum_coefficients e h = (and_parts (is_in_range e.constant) (are_coefficients e.terms) h).1

pub sum_with : (e : Expr) (ts : Terms) → is_sum e ≡ true → are_coefficients ts ≡ true → is_sum (with_terms e ts) ≡ true
sum_with e ts h c = and_from (is_in_range e.constant) (are_coefficients ts) (sum_constant e h) c

pub sum_in_range : (e : Expr) → is_sum e ≡ true → form_in_range e ≡ true
sum_in_range e h = and_from (is_in_range e.constant) (terms_in_range e.terms) (sum_constant e h) (coefficients_in e.terms (sum_coefficients e h))

pub sum_coefficient : (e : Expr) (k : ℕ) → is_sum e ≡ true → is_in_range (coefficient e.terms k) ≡ true
sum_coefficient e k h = coefficient_in e.terms k (coefficients_in e.terms (sum_coefficients e h))

-- what is in range and not 0 is a coefficient
pub is_coefficient_of : (z : ℤ) → is_in_range z ≡ true → is_zero z ≡ false → is_coefficient z ≡ true
is_coefficient_of z r n = and_from (nat_le 1 (unsigned_abs z)) (is_in_range z) (le-leb 1 (unsigned_abs z) (omega (arith, eqb-false (unsigned_abs z) 0 n))) r

order_by : (x y : ℕ) (a b : Bool) → nat_le (suc x) y ≡ a → nat_le (suc y) x ≡ b → nat_cmp x y ≡ Less → x < y
order_by x y true b p q e = leb-true (suc x) y p
order_by x y false true p q e = absurd (cc (sym e ∙ sym (nat_cmp_is x y Greater (leb-true (suc y) x q))))
order_by x y false false p q e =
    let h = leb-false (suc x) y p in
    let k = leb-false (suc y) x q in
    let same : x ≡ y = omega (arith, h, k) in
    absurd (cc (sym e ∙ sym (nat_cmp_is x y Equal same)))

nat_cmp_less : (x y : ℕ) → nat_cmp x y ≡ Less → x < y
nat_cmp_less x y e = order_by x y (nat_le (suc x) y) (nat_le (suc y) x) refl refl e

below_all : (t : ℕ × ℤ) (ts : Terms) → AllByRecursion (λ y. nat_cmp t.0 y ≡ Less) (keys_of ts) → AllByRecursion (λ y. t.0 + 1 ≤ y) (keys_of ts)
below_all t [] h = h
below_all t (u ∷ us) h = (omega (arith, nat_cmp_less t.0 u.0 h.0), below_all t us h.1)

-- a map's keys ascend
pub ascends_from : (low : ℕ) (ts : Terms) → AllByRecursion (λ y. low ≤ y) (keys_of ts) → IsStrictlySortedBy nat_cmp (keys_of ts) → ascends low ts ≡ true
unfolding IsStrictlySortedBy
ascends_from low [] a s = refl
ascends_from low (t ∷ ts) a s = and_from (nat_le low t.0) (ascends (t.0 + 1) ts) (le-leb low t.0 a.0) (ascends_from (t.0 + 1) ts (below_all t ts s.0) s.1)

pub all_above : (ks : List ℕ) → AllByRecursion (λ y. 0 ≤ y) ks
all_above [] = tt
all_above (k ∷ ks) = (omega arith, all_above ks)

sum_of_terms : (constant : ℤ) (old new : Terms) → is_sum (record { constant = constant; terms = old }) ≡ true → are_coefficients new ≡ true → is_sum (record { constant = constant; terms = new }) ≡ true
sum_of_terms constant old new h c = sum_with (record { constant = constant; terms = old }) new h c

pub set_removed : (constant : ℤ) (old new : Terms) (k : ℕ) → is_sum (record { constant = constant; terms = old }) ≡ true → new ≡ remove_entry (at_key k) old → is_sum (record { constant = constant; terms = new }) ≡ true
set_removed constant old new k h e =
    sum_of_terms constant old new h (subst (λ (ts : Terms). are_coefficients ts ≡ true) (sym e) (remove_coefficient old k (sum_coefficients (record { constant = constant; terms = old }) h)))

pub set_inserted : (constant : ℤ) (old new : Terms) (k : ℕ) (v : ℤ) → is_sum (record { constant = constant; terms = old }) ≡ true → is_in_range v ≡ true → is_zero v ≡ false → new ≡ insert_entry nat_cmp old k v → is_sum (record { constant = constant; terms = new }) ≡ true
set_inserted constant old new k v h r z e =
    sum_of_terms constant old new h (subst (λ (ts : Terms). are_coefficients ts ≡ true) (sym e) (insert_coefficient old k v (sum_coefficients (record { constant = constant; terms = old }) h) (is_coefficient_of v r z)))

pub set_kept : (constant : ℤ) (old new : Terms) → is_sum (record { constant = constant; terms = old }) ≡ true → new ≡ old → is_sum (record { constant = constant; terms = new }) ≡ true
set_kept constant old new h e = subst (λ (ts : Terms). is_sum (record { constant = constant; terms = ts }) ≡ true) (sym e) h

-- one term more
pub term_small : (ts : Terms) (i : ℕ) (d : ℕ × ℤ) → i < length ts → terms_in_range (drop i ts) ≡ true → is_in_range (get_or ts i d).1 ≡ true
term_small ts i d h r = (and_parts (is_in_range (get_or ts i d).1) (terms_in_range (drop (suc i) ts)) (subst (λ (us : Terms). terms_in_range us ≡ true) (drop-cons ts i d h) r)).0

pub terms_small : (ts : Terms) (i : ℕ) (d : ℕ × ℤ) → i < length ts → terms_in_range (drop i ts) ≡ true → terms_in_range (drop (i + 1) ts) ≡ true
terms_small ts i d h r =
    let n : i + 1 ≡ suc i = omega arith in
    subst (λ (k : ℕ). terms_in_range (drop k ts) ≡ true) (sym n) (and_parts (is_in_range (get_or ts i d).1) (terms_in_range (drop (suc i) ts)) (subst (λ (us : Terms). terms_in_range us ≡ true) (drop-cons ts i d h) r)).1

-- what is left of the terms, of which each stands behind the one before it
pub record Left (by : ℤ) (ts : Terms) : Type 0 where
  pub low : ℕ
  pub small : terms_in_range ts ≡ true
  pub in_range : terms_in_range (times_terms by ts) ≡ true
  pub ordered : ascends low ts ≡ true

left_one : (by : ℤ) (t : ℕ × ℤ) (ts : Terms) → Left by (t ∷ ts) → (is_in_range t.1 ≡ true) × (is_in_range (by *ℤ t.1) ≡ true) × (ascends (t.0 + 1) ts ≡ true) × Left by ts
left_one by t ts l =
    let p = and_parts (is_in_range t.1) (terms_in_range ts) l.small in
    let q = and_parts (is_in_range (by *ℤ t.1)) (terms_in_range (times_terms by ts)) l.in_range in
    let r = and_parts (nat_le l.low t.0) (ascends (t.0 + 1) ts) l.ordered in
    (p.0, q.0, r.1, record { low = t.0 + 1; small = p.1; in_range = q.1; ordered = r.1 })

pub left_at : (by : ℤ) (ts : Terms) (i : ℕ) (d : ℕ × ℤ) → i < length ts → Left by (drop i ts)
    → (is_in_range (get_or ts i d).1 ≡ true) × (is_in_range (by *ℤ (get_or ts i d).1) ≡ true) × (ascends ((get_or ts i d).0 + 1) (drop (i + 1) ts) ≡ true) × Left by (drop (i + 1) ts)
left_at by ts i d h l =
    let n : i + 1 ≡ suc i = omega arith in
    let o = left_one by (get_or ts i d) (drop (suc i) ts) (subst (λ (us : Terms). Left by us) (drop-cons ts i d h) l) in
    (o.0, o.1, subst (λ (k : ℕ). ascends ((get_or ts i d).0 + 1) (drop k ts) ≡ true) (sym n) o.2, subst (λ (k : ℕ). Left by (drop k ts)) (sym n) o.3)

pub plus_at : (e : Terms) (by : ℤ) (ts : Terms) (i : ℕ) (d : ℕ × ℤ) → i < length ts → plus_terms e (times_terms by (drop i ts)) ≡ plus_terms (plus_term e (get_or ts i d).0 (by *ℤ (get_or ts i d).1)) (times_terms by (drop (i + 1) ts))
unfolding plus_terms
plus_at e by ts i d h =
    let n : i + 1 ≡ suc i = omega arith in
    ap (λ (us : Terms). plus_terms e (times_terms by us)) (drop-cons ts i d h) ∙ sym (ap (λ (k : ℕ). plus_terms (plus_term e (get_or ts i d).0 (by *ℤ (get_or ts i d).1)) (times_terms by (drop k ts))) n)

ascends_times : (low : ℕ) (by : ℤ) (ts : Terms) → ascends low (times_terms by ts) ≡ ascends low ts
ascends_times low by [] = refl
ascends_times low by (t ∷ ts) = ap (λ b. nat_le low t.0 && b) (ascends_times (t.0 + 1) by ts)

-- a term that leaves the range brings the sum out of it
pub far_at : (e : Terms) (by : ℤ) (ts : Terms) (i : ℕ) (d : ℕ × ℤ) → i < length ts → Left by (drop i ts) → is_in_range (coefficient e (get_or ts i d).0 +ℤ (by *ℤ (get_or ts i d).1)) ≡ false → terms_in_range (plus_terms e (times_terms by (drop i ts))) ≡ false
far_at e by ts i d h l f =
    let o = left_at by ts i d h l in
    let t = get_or ts i d in
    ap terms_in_range (plus_at e by ts i d h) ∙ stays_far e (times_terms by (drop (i + 1) ts)) t.0 (by *ℤ t.1) (ascends_times (t.0 + 1) by (drop (i + 1) ts) ∙ o.2) f

-- what is left behind one term more
pub record Adding (by : ℤ) (ts : Terms) (i : ℕ) (start now : Expr) : Type 0 where
  pub rest : plus_terms now.terms (times_terms by (drop i ts)) ≡ plus_terms start.terms (times_terms by ts)
  pub constant : now.constant ≡ start.constant
  pub left : Left by (drop i ts)

pub added_one : (by : ℤ) (ts : Terms) (i : ℕ) (d : ℕ × ℤ) (start now new : Expr) → i < length ts → Adding by ts i start now → new ≡ with_terms now (plus_term now.terms (get_or ts i d).0 (by *ℤ (get_or ts i d).1)) → Adding by ts (i + 1) start new
added_one by ts i d start now new h a e = record {
  rest = ap (λ (x : Expr). plus_terms x.terms (times_terms by (drop (i + 1) ts))) e ∙ sym (plus_at now.terms by ts i d h) ∙ a.rest;
  constant = ap (λ (x : Expr). x.constant) e ∙ a.constant;
  left = (left_at by ts i d h a.left).3;
}

pub added_far : (by : ℤ) (ts : Terms) (i : ℕ) (d : ℕ × ℤ) (start now : Expr) → i < length ts → Adding by ts i start now → is_in_range (coefficient now.terms (get_or ts i d).0 +ℤ (by *ℤ (get_or ts i d).1)) ≡ false
    → terms_in_range (plus_terms start.terms (times_terms by ts)) ≡ false
added_far by ts i d start now h a f = ap terms_in_range (sym a.rest) ∙ far_at now.terms by ts i d h a.left f

pub added_all : (by : ℤ) (ts : Terms) (i : ℕ) (start now : Expr) → length ts ≤ i → Adding by ts i start now → now ≡ with_terms start (plus_terms start.terms (times_terms by ts))
unfolding plus_terms
added_all by ts i start now h a =
    let z : drop i ts ≡ [] = drop_of_length-le ts h in
    let e : now.terms ≡ plus_terms start.terms (times_terms by ts) = sym (ap (λ (us : Terms). plus_terms now.terms (times_terms by us)) z) ∙ a.rest in
    ap (λ (us : Terms). record { constant = now.constant; terms = us }) e ∙ ap (λ n. record { constant = n; terms = plus_terms start.terms (times_terms by ts) }) a.constant

pub term_added : (e : Expr) (k : ℕ) (c : ℤ) (b : Bool) (new : Expr) → b ≡ true → AddsTerm e k c (Ok b) new → new ≡ with_terms e (plus_term e.terms k c)
term_added e k c true new p h = h
term_added e k c false new p h = absurd cc

pub term_far : (e : Expr) (k : ℕ) (c : ℤ) (b : Bool) (new : Expr) → b ≡ false → AddsTerm e k c (Ok b) new → is_in_range (coefficient e.terms k +ℤ c) ≡ false
term_far e k c true new p h = absurd cc
term_far e k c false new p h = h

pub terms_added : (e : Expr) (ts : Terms) (b : Bool) (new : Expr) → b ≡ true → AddsTerms e ts (Ok b) new → new ≡ with_terms e (plus_terms e.terms ts)
terms_added e ts true new p h = h
terms_added e ts false new p h = absurd cc

pub terms_left_range : (e : Expr) (ts : Terms) (b : Bool) (new : Expr) → b ≡ false → AddsTerms e ts (Ok b) new → terms_in_range (plus_terms e.terms ts) ≡ false
terms_left_range e ts true new p h = absurd cc
terms_left_range e ts false new p h = h

-- a map's entries are a collected form
pub collected_of : (constant : ℤ) (ts us : Terms) → is_sum (record { constant = constant; terms = ts }) ≡ true → IsStrictlySortedBy nat_cmp (keys_of ts) → us ≡ ts → is_collected (record { constant = constant; terms = us }) ≡ true
collected_of constant ts us h s e =
    subst (λ (xs : Terms). is_collected (record { constant = constant; terms = xs }) ≡ true) (sym e)
    (and_from (is_sum (record { constant = constant; terms = ts })) (ascends 0 ts) h (ascends_from 0 ts (all_above (keys_of ts)) s))
