-- What the code's numbers say of multiples.
use Rattle.std.proofs.Common.{◌≡◌, ℕ, ◌*◌, ◌^◌, ◌<◌, ◌≤◌, suc, max, Bool, true, false, not, cond, ◌&&◌, ◌==◌, List, [], ◌∷◌, length, ℤ, pos, negsuc, ◌+ℤ◌, ◌*ℤ◌, unsigned_abs, nat_le, FitsSigned, w64, to_z, of_z, Ok, Err, refl, sym, ap, subst, ◌∙◌, arith, lit<}
use Rattle.std.proofs.lemmas.Int.{ints, unsigned_abs-mul, to_z-of_z, fits_signed_mul, fits_signed_from_abs}
use Rattle.std.proofs.lemmas.Bool.{leb-true, le-leb, lt-leb, and_parts, and_from, ne_eqb, eqb-true}
use Rattle.std.proofs.Math.Nat.{mul-le-mul_left}
use Rattle.mlir_base.specs.Numbers.{is_in_range, is_coefficient}
use Rattle.affine_maps.specs.declared.map.Expr.{Expr}
use Rattle.affine_text.specs.declared.reading.multiple.Multiple.{Multiple}
use Rattle.affine_text.specs.declared.reading.fault.MapError.TheVariants.{Range}
use Rattle.affine_text.specs.Collected.{is_zero, constant_form, are_some, has_terms, terms_in_range, form_in_range, scaled, negative_form, times_form, plus_form, plus_terms}
use Rattle.affine_text.specs.Meaning.{product_of}
use Rattle.affine_text.specs.Multiples.{greatest_from, greatest_of, value_of, IsMultiple, multiple_of, ascends, are_coefficients, is_sum, is_collected, times_terms, with_terms}
use Rattle.affine_text.proofs.Adding.{Left, sum_in_range}
use Rattle.affine_text.proofs.Scaling.{scaled_zero, scaled_other, terms_range, scaled_number, scaled_twice, terms_of_scaled, range_of_scaled, times_of_scaled, product_ok, product_far, kept}

pub product_value : (a b : ℤ) → FitsSigned w64 a → FitsSigned w64 b → unsigned_abs a ≤ 2 ^ 31 → unsigned_abs b ≤ 2 ^ 31 → to_z w64 (of_z w64 (to_z w64 (of_z w64 a) *ℤ to_z w64 (of_z w64 b))) ≡ a *ℤ b
product_value a b f g h k =
    let p = fits_signed_mul w64 a b (2 ^ 31) (2 ^ 31) h k (lit< tt) in
    ap (λ n. to_z w64 (of_z w64 (n *ℤ to_z w64 (of_z w64 b)))) (to_z-of_z w64 a f) ∙ ap (λ n. to_z w64 (of_z w64 (a *ℤ n))) (to_z-of_z w64 b g) ∙ to_z-of_z w64 (a *ℤ b) p

pub number_value : (n : ℤ) (form : Expr) → FitsSigned w64 n → form ≡ constant_form (pos 1) → scaled (to_z w64 (of_z w64 n)) form ≡ constant_form n
number_value n form f e = ap (λ z. scaled z form) (to_z-of_z w64 n f) ∙ ap (scaled n) e ∙ scaled_number n

some_by : (ts : List (ℕ × ℤ)) → not (length ts == 0) ≡ are_some ts
some_by [] = refl
some_by (t ∷ ts) = ap not (ne_eqb (suc (length ts)) 0 (λ e. absurd (omega (arith, e))))

pub terms_then : (by : ℤ) (form : Expr) (z e : Bool) → z ≡ is_zero by → not z ≡ true → e ≡ (length form.terms == 0) → not e ≡ has_terms (scaled by form)
terms_then by form z e p q r = ap not r ∙ some_by form.terms ∙ sym (terms_of_scaled by form ∙ ap (λ b. b && has_terms form) (ap not (sym p) ∙ q))

pub terms_else : (by : ℤ) (form : Expr) (z : Bool) → z ≡ is_zero by → not z ≡ false → not z ≡ has_terms (scaled by form)
terms_else by form z p q = q ∙ sym (terms_of_scaled by form ∙ ap (λ b. b && has_terms form) (ap not (sym p) ∙ q))

-- ---- multiples

small_by : (m : Multiple) → IsMultiple m → unsigned_abs m.by ≤ 2 ^ 31
small_by m h = let k : unsigned_abs m.by * 1 ≤ unsigned_abs m.by * m.greatest = mul-le-mul_left (unsigned_abs m.by) h.some in omega (arith, k, h.in_range)

pub multiple_small : (m : Multiple) → IsMultiple m → unsigned_abs m.by ≤ 2 ^ 31
multiple_small m h = small_by m h

-- another number in place of the multiple's
pub with_number : (m r : Multiple) (by : ℤ) → IsMultiple m → r ≡ multiple_of by m → nat_le (unsigned_abs by * m.greatest) (2 ^ 31) ≡ true → IsMultiple r
with_number m r by h e p = subst IsMultiple (sym e) (record { most = h.most; some = h.some; few = h.few; in_range = leb-true (unsigned_abs by * m.greatest) (2 ^ 31) p; one = h.one; ordered = h.ordered })

turned_abs : (z : ℤ) → unsigned_abs (negsuc 0 *ℤ z) ≡ unsigned_abs z
turned_abs z = let e = unsigned_abs-mul (negsuc 0) z in omega (arith, e)

pub negated_value : (m r : Multiple) (by : ℤ) → r ≡ multiple_of by m → by ≡ negsuc 0 *ℤ m.by → value_of r ≡ negative_form (value_of m)
negated_value m r by e p = ap value_of e ∙ ap (λ b. scaled b m.form) p ∙ sym (scaled_twice (negsuc 0) m.by m.form)

pub negated_holds : (m r : Multiple) (by : ℤ) → IsMultiple m → r ≡ multiple_of by m → by ≡ negsuc 0 *ℤ m.by → IsMultiple r
negated_holds m r by h e p =
    let q : unsigned_abs by ≡ unsigned_abs m.by = ap unsigned_abs p ∙ turned_abs m.by in
    with_number m r by h e (le-leb (unsigned_abs by * m.greatest) (2 ^ 31) (subst (λ n. n * m.greatest ≤ 2 ^ 31) (sym q) h.in_range))

kept_holds : (b : Bool) (m n : Multiple) → IsMultiple m → IsMultiple n → IsMultiple (cond b n m)
kept_holds true m n h k = k
kept_holds false m n h k = h

kept_form : (b : Bool) (m n : Multiple) → (cond b n m).form ≡ kept b m.form n.form
kept_form true m n = refl
kept_form false m n = refl

pub kept_is : (m n k : Multiple) (b : Bool) → IsMultiple m → IsMultiple n → k ≡ cond b n m → IsMultiple k
kept_is m n k b h g e = subst IsMultiple (sym e) (kept_holds b m n h g)

times_is : (m n k : Multiple) (b : Bool) (by : ℤ) → IsMultiple m → IsMultiple n → has_terms (value_of n) && has_terms (value_of m) ≡ false → b ≡ has_terms (value_of n) → k ≡ cond b n m → by ≡ m.by *ℤ n.by
    → times_form (value_of m) (value_of n) ≡ scaled by k.form
times_is m n k b by h g free e f p =
    times_of_scaled m.by n.by m.form n.form h.one g.one free ∙ ap (λ x. scaled (m.by *ℤ n.by) (kept x m.form n.form)) (sym e) ∙ ap (scaled (m.by *ℤ n.by)) (sym (ap (λ (x : Multiple). x.form) f ∙ kept_form b m n)) ∙ ap (λ z. scaled z k.form) (sym p)

range_is : (by : ℤ) (k : Multiple) → IsMultiple k → form_in_range (scaled by k.form) ≡ nat_le (unsigned_abs by * k.greatest) (2 ^ 31)
range_is by k h = range_of_scaled by k.form ∙ ap (λ g. nat_le (unsigned_abs by * g) (2 ^ 31)) (sym h.most)

pub times_ok : (m n k r : Multiple) (b : Bool) (by : ℤ) (w : Bool) → IsMultiple m → IsMultiple n → has_terms (value_of n) && has_terms (value_of m) ≡ false → b ≡ has_terms (value_of n) → k ≡ cond b n m → by ≡ m.by *ℤ n.by
    → w ≡ nat_le (unsigned_abs by * k.greatest) (2 ^ 31) → w ≡ true → r ≡ multiple_of by k → IsMultiple r × ((at : ℕ) → product_of at (value_of m) (value_of n) ≡ Ok (value_of r))
times_ok m n k r b by w h g free e f p q t s =
    let i = kept_is m n k b h g f in (
      with_number k r by i s (sym q ∙ t),
      λ at. product_ok at (value_of m) (value_of n) (scaled by k.form) free (times_is m n k b by h g free e f p) (range_is by k i ∙ sym q ∙ t) ∙ ap (λ (x : Multiple). Ok (value_of x)) (sym s),
    )

pub times_far : (m n k : Multiple) (b : Bool) (by : ℤ) (w : Bool) → IsMultiple m → IsMultiple n → has_terms (value_of n) && has_terms (value_of m) ≡ false → b ≡ has_terms (value_of n) → k ≡ cond b n m → by ≡ m.by *ℤ n.by
    → w ≡ nat_le (unsigned_abs by * k.greatest) (2 ^ 31) → w ≡ false → (at : ℕ) → product_of at (value_of m) (value_of n) ≡ Err (Range at)
times_far m n k b by w h g free e f p q t at =
    let i = kept_is m n k b h g f in
    product_far at (value_of m) (value_of n) (scaled by k.form) free (times_is m n k b by h g free e f p) (range_is by k i ∙ sym q ∙ t)

pub within_far : (n g : ℕ) → 0 < g → 2 ^ 31 < n → nat_le (n * g) (2 ^ 31) ≡ false
within_far n g h k = let m : n * 1 ≤ n * g = mul-le-mul_left n h in lt-leb (n * g) (2 ^ 31) (omega (arith, m, k))

-- ---- collected forms

coefficient_some : (z : ℤ) → is_coefficient z ≡ true → 0 < unsigned_abs z
coefficient_some z h = leb-true 1 (unsigned_abs z) (and_parts (nat_le 1 (unsigned_abs z)) (is_in_range z) h).0

coefficient_few : (z : ℤ) → is_coefficient z ≡ true → unsigned_abs z ≤ 2 ^ 31
coefficient_few z h = leb-true (unsigned_abs z) (2 ^ 31) (and_parts (nat_le 1 (unsigned_abs z)) (is_in_range z) h).1

greatest_low : (n : ℕ) (ts : List (ℕ × ℤ)) → n ≤ greatest_from n ts
greatest_low n [] = omega arith
greatest_low n (t ∷ ts) = let h = greatest_low (max n (unsigned_abs t.1)) ts in omega (arith, h)

greatest_high : (n : ℕ) (ts : List (ℕ × ℤ)) → n ≤ 2 ^ 31 → are_coefficients ts ≡ true → greatest_from n ts ≤ 2 ^ 31
greatest_high n [] h c = h
greatest_high n (t ∷ ts) h c =
    let p = and_parts (is_coefficient t.1) (are_coefficients ts) c in
    let k = coefficient_few t.1 p.0 in
    greatest_high (max n (unsigned_abs t.1)) ts (omega (arith, h, k)) p.1

some_terms : (ts : List (ℕ × ℤ)) (n : ℕ) → are_some ts ≡ true → are_coefficients ts ≡ true → 0 < greatest_from n ts
some_terms [] n s c = absurd cc
some_terms (t ∷ ts) n s c =
    let p = and_parts (is_coefficient t.1) (are_coefficients ts) c in
    let k = coefficient_some t.1 p.0 in
    let h = greatest_low (max n (unsigned_abs t.1)) ts in
    omega (arith, h, k)

some_of : (e : Bool) (ts : List (ℕ × ℤ)) → e ≡ (length ts == 0) → e ≡ false → are_some ts ≡ true
some_of e [] p q = absurd (cc (sym p ∙ q))
some_of e (t ∷ ts) p q = refl

-- a collected form with terms
pub form_holds : (e : Bool) (m : Multiple) (form : Expr) → is_collected form ≡ true → e ≡ (length form.terms == 0) → e ≡ false → m ≡ record { by = pos 1; form = form; greatest = greatest_of form } → IsMultiple m
form_holds e m form c p q r =
    let a = and_parts (is_sum form) (ascends 0 form.terms) c in
    let b = and_parts (is_in_range form.constant) (are_coefficients form.terms) a.0 in
    let s = some_of e form.terms p q in
    let few = greatest_high (unsigned_abs form.constant) form.terms (leb-true (unsigned_abs form.constant) (2 ^ 31) b.0) b.1 in
    subst IsMultiple (sym r) (record { most = refl; some = some_terms form.terms (unsigned_abs form.constant) s b.1; few = few; in_range = omega (arith, few); one = λ h. absurd (cc (sym s ∙ h)); ordered = a.1 })

not_empty : (t : ℕ × ℤ) (ts : List (ℕ × ℤ)) → (length (t ∷ ts) == 0) ≡ true → ⊥
not_empty t ts e = absurd (omega (arith, eqb-true (suc (length ts)) 0 e))

none_of : (e : Bool) (ts : List (ℕ × ℤ)) → e ≡ (length ts == 0) → e ≡ true → ts ≡ []
none_of e [] p q = refl
none_of e (t ∷ ts) p q = absurd (not_empty t ts (sym p ∙ q))

pub constant_alone : (e : Bool) (form : Expr) → e ≡ (length form.terms == 0) → e ≡ true → constant_form form.constant ≡ form
constant_alone e form p q = ap (λ ts. record { constant = form.constant; terms = ts }) (sym (none_of e form.terms p q))

pub collected_constant : (form : Expr) → is_collected form ≡ true → is_in_range form.constant ≡ true
collected_constant form c = (and_parts (is_in_range form.constant) (are_coefficients form.terms) (and_parts (is_sum form) (ascends 0 form.terms) c).0).0

-- ---- numbers as they are stored

pub stored_zero : (by : ℤ) (z : Bool) → FitsSigned w64 by → z ≡ is_zero (to_z w64 (of_z w64 by)) → z ≡ is_zero by
stored_zero by z f e = e ∙ ap is_zero (to_z-of_z w64 by f)

pub small_fits : (z : ℤ) → unsigned_abs z ≤ 2 ^ 31 → FitsSigned w64 z
small_fits z h = fits_signed_from_abs w64 z (omega (arith, h))

pub stored_by : (m r : Multiple) (by : ℤ) → FitsSigned w64 by → r ≡ multiple_of (to_z w64 (of_z w64 by)) m → r ≡ multiple_of by m
stored_by m r by f e = e ∙ ap (λ b. multiple_of b m) (to_z-of_z w64 by f)

pub stored_product : (a b p : ℤ) → FitsSigned w64 a → FitsSigned w64 b → p ≡ to_z w64 (of_z w64 a) *ℤ to_z w64 (of_z w64 b) → p ≡ a *ℤ b
stored_product a b p f g e = e ∙ ap (λ n. n *ℤ to_z w64 (of_z w64 b)) (to_z-of_z w64 a f) ∙ ap (λ n. a *ℤ n) (to_z-of_z w64 b g)

pub stored_within : (by : ℤ) (g : ℕ) (w : Bool) → FitsSigned w64 by → w ≡ nat_le (unsigned_abs (to_z w64 (of_z w64 by)) * g) (2 ^ 31) → w ≡ nat_le (unsigned_abs by * g) (2 ^ 31)
stored_within by g w f e = e ∙ ap (λ n. nat_le (unsigned_abs n * g) (2 ^ 31)) (to_z-of_z w64 by f)

pub product_fits : (a b p : ℤ) → unsigned_abs a ≤ 2 ^ 31 → unsigned_abs b ≤ 2 ^ 31 → p ≡ a *ℤ b → FitsSigned w64 p
product_fits a b p h k e = subst (λ n. FitsSigned w64 n) (sym e) (fits_signed_mul w64 a b (2 ^ 31) (2 ^ 31) h k (lit< tt))

pub collected_fits : (form : Expr) → is_collected form ≡ true → FitsSigned w64 form.constant
collected_fits form c = small_fits form.constant (leb-true (unsigned_abs form.constant) (2 ^ 31) (collected_constant form c))

pub stored_constant : (form : Expr) → is_collected form ≡ true → to_z w64 (of_z w64 form.constant) ≡ form.constant
stored_constant form c = to_z-of_z w64 form.constant (collected_fits form c)

-- ---- the terms of a multiple

terms_few : (n : ℕ) (ts : List (ℕ × ℤ)) → greatest_from n ts ≤ 2 ^ 31 → terms_in_range ts ≡ true
terms_few n [] h = refl
terms_few n (t ∷ ts) h =
    let k = greatest_low (max n (unsigned_abs t.1)) ts in
    and_from (is_in_range t.1) (terms_in_range ts) (le-leb (unsigned_abs t.1) (2 ^ 31) (omega (arith, h, k))) (terms_few (max n (unsigned_abs t.1)) ts h)

multiple_few : (m : Multiple) → IsMultiple m → greatest_of m.form ≤ 2 ^ 31
multiple_few m h = omega (arith, h.most, h.few)

pub multiple_left : (m : Multiple) → IsMultiple m → Left m.by m.form.terms
multiple_left m h =
    let r : nat_le (unsigned_abs m.by * greatest_of m.form) (2 ^ 31) ≡ true = le-leb (unsigned_abs m.by * greatest_of m.form) (2 ^ 31) (subst (λ g. unsigned_abs m.by * g ≤ 2 ^ 31) h.most h.in_range) in
    let p = and_parts (nat_le (unsigned_abs m.by * unsigned_abs m.form.constant) (2 ^ 31)) (terms_in_range (times_terms m.by m.form.terms)) (terms_range m.by (unsigned_abs m.form.constant) m.form.terms ∙ r) in
    record { low = 0; small = terms_few (unsigned_abs m.form.constant) m.form.terms (multiple_few m h); in_range = p.1; ordered = h.ordered }

pub multiple_constant : (m : Multiple) → IsMultiple m → is_in_range (m.by *ℤ m.form.constant) ≡ true
multiple_constant m h =
    let r : nat_le (unsigned_abs m.by * greatest_of m.form) (2 ^ 31) ≡ true = le-leb (unsigned_abs m.by * greatest_of m.form) (2 ^ 31) (subst (λ g. unsigned_abs m.by * g ≤ 2 ^ 31) h.most h.in_range) in
    let p = and_parts (nat_le (unsigned_abs m.by * unsigned_abs m.form.constant) (2 ^ 31)) (terms_in_range (times_terms m.by m.form.terms)) (terms_range m.by (unsigned_abs m.form.constant) m.form.terms ∙ r) in
    ap (λ n. nat_le n (2 ^ 31)) (unsigned_abs-mul m.by m.form.constant) ∙ p.0

pub constant_small : (m : Multiple) → IsMultiple m → unsigned_abs m.form.constant ≤ 2 ^ 31
constant_small m h = let k = greatest_low (unsigned_abs m.form.constant) m.form.terms in omega (arith, k, multiple_few m h)

-- ---- one term of a sum

pub range_small : (z : ℤ) → is_in_range z ≡ true → unsigned_abs z ≤ 2 ^ 31
range_small z h = leb-true (unsigned_abs z) (2 ^ 31) h

pub range_fits : (z : ℤ) → is_in_range z ≡ true → FitsSigned w64 z
range_fits z h = small_fits z (range_small z h)

-- the product that is added, as it is stored
pub added_number : (m : Multiple) (z p : ℤ) → IsMultiple m → is_in_range z ≡ true → p ≡ to_z w64 (of_z w64 m.by) *ℤ to_z w64 (of_z w64 z) → p ≡ m.by *ℤ z
added_number m z p h r e = stored_product m.by z p (small_fits m.by (multiple_small m h)) (range_fits z r) e

pub stored_again : (z : ℤ) → is_in_range z ≡ true → to_z w64 (of_z w64 z) ≡ z
stored_again z r = to_z-of_z w64 z (range_fits z r)

-- nothing times a form is added
pub adds_nothing : (e : Expr) (m : Multiple) → is_sum e ≡ true → is_zero m.by ≡ true → (form_in_range (plus_form e (value_of m)) ≡ true) × (e ≡ plus_form e (value_of m))
unfolding plus_terms
adds_nothing e m h z =
    let c : e.constant ≡ e.constant +ℤ pos 0 = omega (arith, ints) in
    let same : e ≡ plus_form e (value_of m) = ap (λ n. record { constant = n; terms = e.terms }) c ∙ sym (ap (plus_form e) (scaled_zero m.by m.form z)) in
    (ap form_in_range (sym same) ∙ sum_in_range e h, same)

plus_value : (e : Expr) (m : Multiple) → is_zero m.by ≡ false → plus_form e (value_of m) ≡ record { constant = e.constant +ℤ (m.by *ℤ m.form.constant); terms = plus_terms e.terms (times_terms m.by m.form.terms) }
plus_value e m z = ap (plus_form e) (scaled_other m.by m.form z)

and_false : (x : Bool) → x && false ≡ false
and_false true = refl
and_false false = refl

pub constant_far : (e : Expr) (m : Multiple) → is_zero m.by ≡ false → is_in_range (e.constant +ℤ (m.by *ℤ m.form.constant)) ≡ false → form_in_range (plus_form e (value_of m)) ≡ false
constant_far e m z f = ap form_in_range (plus_value e m z) ∙ ap (λ b. b && terms_in_range (plus_terms e.terms (times_terms m.by m.form.terms))) f

pub terms_far : (e : Expr) (m : Multiple) → is_zero m.by ≡ false → terms_in_range (plus_terms e.terms (times_terms m.by m.form.terms)) ≡ false → form_in_range (plus_form e (value_of m)) ≡ false
terms_far e m z f =
    ap form_in_range (plus_value e m z) ∙ ap (λ b. is_in_range (e.constant +ℤ (m.by *ℤ m.form.constant)) && b) f ∙ and_false (is_in_range (e.constant +ℤ (m.by *ℤ m.form.constant)))

pub adds_all : (e new : Expr) (m : Multiple) → is_zero m.by ≡ false → is_sum new ≡ true → new ≡ record { constant = e.constant +ℤ (m.by *ℤ m.form.constant); terms = plus_terms e.terms (times_terms m.by m.form.terms) }
    → (form_in_range (plus_form e (value_of m)) ≡ true) × (new ≡ plus_form e (value_of m))
adds_all e new m z h p =
    let same : new ≡ plus_form e (value_of m) = p ∙ sym (plus_value e m z) in
    (ap form_in_range (sym same) ∙ sum_in_range new h, same)

pub stored_number : (z p : ℤ) → p ≡ z → is_in_range z ≡ true → to_z w64 (of_z w64 p) ≡ z
stored_number z p e r = ap (λ n. to_z w64 (of_z w64 n)) e ∙ stored_again z r

pub stored_sum : (e mid new : Expr) (m : Multiple) (n : ℤ) (ok : Bool) → IsMultiple m → n ≡ m.by *ℤ m.form.constant → mid ≡ record { constant = e.constant +ℤ n; terms = e.terms } → new ≡ with_terms mid (plus_terms mid.terms (times_terms m.by m.form.terms))
    → new ≡ record { constant = e.constant +ℤ (m.by *ℤ m.form.constant); terms = plus_terms e.terms (times_terms m.by m.form.terms) }
stored_sum e mid new m n ok h p q r =
    r ∙ ap (λ (x : Expr). with_terms x (plus_terms x.terms (times_terms m.by m.form.terms))) q ∙ ap (λ z. record { constant = e.constant +ℤ z; terms = plus_terms e.terms (times_terms m.by m.form.terms) }) p

pub constant_in : (m : Multiple) → IsMultiple m → is_in_range m.form.constant ≡ true
constant_in m h = le-leb (unsigned_abs m.form.constant) (2 ^ 31) (constant_small m h)

pub other_than_zero : (m : Multiple) (z : Bool) → IsMultiple m → z ≡ is_zero (to_z w64 (of_z w64 m.by)) → z ≡ false → is_zero m.by ≡ false
other_than_zero m z h e f = sym (stored_zero m.by z (small_fits m.by (multiple_small m h)) e) ∙ f
