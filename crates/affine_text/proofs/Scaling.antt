-- Forms in a multiple.
use Rattle.std.proofs.Common.{◌≡◌, ℕ, ◌*◌, ◌^◌, ◌<◌, ◌≤◌, suc, max, Bool, true, false, not, cond, ◌&&◌, List, [], ◌∷◌, ℤ, pos, negsuc, ◌*ℤ◌, unsigned_abs, nat_le, refl, sym, ap, ◌∙◌, arith, Ok, Err}
use Rattle.std.proofs.lemmas.Int.{ints, unsigned_abs-mul}
use borrow.Author.Differences.{up, down, product_is}
use Rattle.std.proofs.lemmas.Bool.{cond-true, cond-false, leb-true, leb-false, le-leb, eqb-true, eq-eqb, eqb-false, ne_eqb}
use Rattle.std.proofs.Math.Nat.{mul-pos, mul-zero, zero-mul, mul-le-mul_left}
use Rattle.affine_maps.specs.declared.map.Expr.{Expr}
use Rattle.affine_text.specs.declared.reading.fault.MapError.TheVariants.{Form, Range}
use Rattle.affine_text.specs.Collected.{is_zero, constant_form, are_some, has_terms, terms_in_range, form_in_range, scaled, times_form}
use Rattle.affine_text.specs.Meaning.{in_range, product_of, one_form, zero_form}
use Rattle.affine_text.specs.Multiples.{greatest_from, greatest_of, times_terms}

-- ---- numbers

mul_assoc : (a b c : ℤ) → (a *ℤ b) *ℤ c ≡ a *ℤ (b *ℤ c)
mul_assoc a b c =
    let p = product_is a b in
    let q = product_is b c in
    let e = ap (λ (n : ℕ). n * up c) p.0 in
    let f = ap (λ (n : ℕ). n * down c) p.0 in
    let g = ap (λ (n : ℕ). n * up c) p.1 in
    let h = ap (λ (n : ℕ). n * down c) p.1 in
    let i = ap (λ (n : ℕ). n * up a) q.0 in
    let j = ap (λ (n : ℕ). n * down a) q.0 in
    let k = ap (λ (n : ℕ). n * up a) q.1 in
    let l = ap (λ (n : ℕ). n * down a) q.1 in
    omega (arith, ints)

pub zero_is : (n : ℤ) → is_zero n ≡ true → n ≡ pos 0
zero_is (pos a) e = ap pos (eqb-true a 0 e)
zero_is (negsuc a) e = absurd (omega (arith, eqb-true (suc a) 0 e))

pub scaled_zero : (n : ℤ) (e : Expr) → is_zero n ≡ true → scaled n e ≡ zero_form
unfolding scaled
scaled_zero n e z = cond-true (is_zero n) _ _ z

pub scaled_other : (n : ℤ) (e : Expr) → is_zero n ≡ false → scaled n e ≡ record { constant = n *ℤ e.constant; terms = times_terms n e.terms }
unfolding scaled
scaled_other n e z = cond-false (is_zero n) _ _ z

one_terms : (ts : List (ℕ × ℤ)) → times_terms (pos 1) ts ≡ ts
one_terms [] = refl
one_terms (t ∷ ts) = let e : pos 1 *ℤ t.1 ≡ t.1 = omega (arith, ints) in ap (λ z. (t.0, z) ∷ times_terms (pos 1) ts) e ∙ ap (λ us. t ∷ us) (one_terms ts)

pub scaled_one : (e : Expr) → scaled (pos 1) e ≡ e
scaled_one e =
    let c : pos 1 *ℤ e.constant ≡ e.constant = omega (arith, ints) in
    scaled_other (pos 1) e refl ∙ ap (λ z. record { constant = z; terms = times_terms (pos 1) e.terms }) c ∙ ap (λ ts. record { constant = e.constant; terms = ts }) (one_terms e.terms)

scaled_number_by : (n : ℤ) (b : Bool) → is_zero n ≡ b → scaled n one_form ≡ constant_form n
scaled_number_by n true z = scaled_zero n one_form z ∙ sym (ap constant_form (zero_is n z))
scaled_number_by n false z = let c : n *ℤ pos 1 ≡ n = omega (arith, ints) in scaled_other n one_form z ∙ ap constant_form c

-- a number is a multiple of 1
pub scaled_number : (n : ℤ) → scaled n one_form ≡ constant_form n
scaled_number n = scaled_number_by n (is_zero n) refl

both_terms : (a b : ℤ) (ts : List (ℕ × ℤ)) → times_terms a (times_terms b ts) ≡ times_terms (a *ℤ b) ts
both_terms a b [] = refl
both_terms a b (t ∷ ts) =
    let e = sym (mul_assoc a b t.1) in
    ap (λ z. (t.0, z) ∷ times_terms a (times_terms b ts)) e ∙ ap (λ us. (t.0, (a *ℤ b) *ℤ t.1) ∷ us) (both_terms a b ts)

abs_zero : (a b : ℤ) → is_zero a ≡ true → is_zero (a *ℤ b) ≡ true
abs_zero a b z =
    let n : unsigned_abs a ≡ 0 = eqb-true (unsigned_abs a) 0 z in
    eq-eqb (unsigned_abs (a *ℤ b)) 0 (unsigned_abs-mul a b ∙ ap (λ m. m * unsigned_abs b) n ∙ zero-mul (unsigned_abs b))

abs_zero_right : (a b : ℤ) → is_zero b ≡ true → is_zero (a *ℤ b) ≡ true
abs_zero_right a b z =
    let n : unsigned_abs b ≡ 0 = eqb-true (unsigned_abs b) 0 z in
    eq-eqb (unsigned_abs (a *ℤ b)) 0 (unsigned_abs-mul a b ∙ ap (λ m. unsigned_abs a * m) n ∙ mul-zero (unsigned_abs a))

abs_other : (a b : ℤ) → is_zero a ≡ false → is_zero b ≡ false → is_zero (a *ℤ b) ≡ false
abs_other a b z w =
    let x : 0 < unsigned_abs a = omega (arith, eqb-false (unsigned_abs a) 0 z) in
    let y : 0 < unsigned_abs b = omega (arith, eqb-false (unsigned_abs b) 0 w) in
    let p : 0 < unsigned_abs a * unsigned_abs b = mul-pos x y in
    ne_eqb (unsigned_abs (a *ℤ b)) 0 (λ e. absurd (omega (arith, e, unsigned_abs-mul a b, p)))

scaled_twice_by : (a b : ℤ) (e : Expr) (x y : Bool) → is_zero a ≡ x → is_zero b ≡ y → scaled a (scaled b e) ≡ scaled (a *ℤ b) e
scaled_twice_by a b e true y z w = scaled_zero a (scaled b e) z ∙ sym (scaled_zero (a *ℤ b) e (abs_zero a b z))
scaled_twice_by a b e false true z w =
    let c : a *ℤ pos 0 ≡ pos 0 = omega (arith, ints) in
    ap (scaled a) (scaled_zero b e w) ∙ scaled_other a zero_form z ∙ ap constant_form c ∙ sym (scaled_zero (a *ℤ b) e (abs_zero_right a b w))
scaled_twice_by a b e false false z w =
    let c = sym (mul_assoc a b e.constant) in
    ap (scaled a) (scaled_other b e w) ∙ scaled_other a _ z ∙ ap (λ n. record { constant = n; terms = times_terms a (times_terms b e.terms) }) c ∙ ap (λ ts. record { constant = (a *ℤ b) *ℤ e.constant; terms = ts }) (both_terms a b e.terms)
    ∙ sym (scaled_other (a *ℤ b) e (abs_other a b z w))

pub scaled_twice : (a b : ℤ) (e : Expr) → scaled a (scaled b e) ≡ scaled (a *ℤ b) e
scaled_twice a b e = scaled_twice_by a b e (is_zero a) (is_zero b) refl refl

-- ---- terms

some_times : (n : ℤ) (ts : List (ℕ × ℤ)) → are_some (times_terms n ts) ≡ are_some ts
some_times n [] = refl
some_times n (t ∷ ts) = refl

terms_by : (n : ℤ) (e : Expr) (b : Bool) → is_zero n ≡ b → has_terms (scaled n e) ≡ not b && has_terms e
terms_by n e true z = ap has_terms (scaled_zero n e z)
terms_by n e false z = ap has_terms (scaled_other n e z) ∙ some_times n e.terms

pub terms_of_scaled : (n : ℤ) (e : Expr) → has_terms (scaled n e) ≡ not (is_zero n) && has_terms e
terms_of_scaled n e = terms_by n e (is_zero n) refl

-- ---- the range of a multiple

-- a is at most the limit and b is exactly where the greater is
below_by : (a b c : ℕ) (x y z : Bool) → nat_le a c ≡ x → nat_le b c ≡ y → nat_le (max a b) c ≡ z → x && y ≡ z
below_by a b c true true true p q r = refl
below_by a b c true true false p q r = absurd (omega (arith, leb-true a c p, leb-true b c q, leb-false (max a b) c r))
below_by a b c true false true p q r = absurd (omega (arith, leb-false b c q, leb-true (max a b) c r))
below_by a b c true false false p q r = refl
below_by a b c false y true p q r = absurd (omega (arith, leb-false a c p, leb-true (max a b) c r))
below_by a b c false y false p q r = refl

both_below : (a b c : ℕ) → nat_le a c && nat_le b c ≡ nat_le (max a b) c
both_below a b c = below_by a b c (nat_le a c) (nat_le b c) (nat_le (max a b) c) refl refl refl

max_times_by : (m a b : ℕ) (x : Bool) → nat_le a b ≡ x → max (m * a) (m * b) ≡ m * max a b
max_times_by m a b true e =
    let h : a ≤ b = leb-true a b e in
    let k : m * a ≤ m * b = mul-le-mul_left m h in
    let p : max (m * a) (m * b) ≡ m * b = omega (arith, k) in
    let q : max a b ≡ b = omega (arith, h) in
    p ∙ sym (ap (λ n. m * n) q)
max_times_by m a b false e =
    let h : b ≤ a = omega (arith, leb-false a b e) in
    let k : m * b ≤ m * a = mul-le-mul_left m h in
    let p : max (m * a) (m * b) ≡ m * a = omega (arith, k) in
    let q : max a b ≡ a = omega (arith, h) in
    p ∙ sym (ap (λ n. m * n) q)

max_times : (m a b : ℕ) → max (m * a) (m * b) ≡ m * max a b
max_times m a b = max_times_by m a b (nat_le a b) refl

and_true : (x : Bool) → x && true ≡ x
and_true true = refl
and_true false = refl

and_assoc : (x y z : Bool) → x && (y && z) ≡ (x && y) && z
and_assoc true y z = refl
and_assoc false y z = refl

pub terms_range : (a : ℤ) (n : ℕ) (ts : List (ℕ × ℤ)) → nat_le (unsigned_abs a * n) (2 ^ 31) && terms_in_range (times_terms a ts) ≡ nat_le (unsigned_abs a * greatest_from n ts) (2 ^ 31)
terms_range a n [] = and_true (nat_le (unsigned_abs a * n) (2 ^ 31))
terms_range a n (t ∷ ts) =
    let m = unsigned_abs a in
    let x = unsigned_abs t.1 in
    and_assoc (nat_le (m * n) (2 ^ 31)) (nat_le (unsigned_abs (a *ℤ t.1)) (2 ^ 31)) (terms_in_range (times_terms a ts))
    ∙ ap (λ k. (nat_le (m * n) (2 ^ 31) && nat_le k (2 ^ 31)) && terms_in_range (times_terms a ts)) (unsigned_abs-mul a t.1)
    ∙ ap (λ b. b && terms_in_range (times_terms a ts)) (both_below (m * n) (m * x) (2 ^ 31) ∙ ap (λ k. nat_le k (2 ^ 31)) (max_times m n x))
    ∙ terms_range a (max n x) ts

range_by : (a : ℤ) (e : Expr) (b : Bool) → is_zero a ≡ b → form_in_range (scaled a e) ≡ nat_le (unsigned_abs a * greatest_of e) (2 ^ 31)
range_by a e true z =
    let n : unsigned_abs a ≡ 0 = eqb-true (unsigned_abs a) 0 z in
    ap form_in_range (scaled_zero a e z) ∙ sym (le-leb (unsigned_abs a * greatest_of e) (2 ^ 31) (omega (arith, ap (λ m. m * greatest_of e) n, zero-mul (greatest_of e))))
range_by a e false z =
    ap form_in_range (scaled_other a e z) ∙ ap (λ k. nat_le k (2 ^ 31) && terms_in_range (times_terms a e.terms)) (unsigned_abs-mul a e.constant) ∙ terms_range a (unsigned_abs e.constant) e.terms

-- a multiple is in range where the greatest of its numbers is
pub range_of_scaled : (a : ℤ) (e : Expr) → form_in_range (scaled a e) ≡ nat_le (unsigned_abs a * greatest_of e) (2 ^ 31)
range_of_scaled a e = range_by a e (is_zero a) refl

-- ---- products

constant_by : (a : ℤ) (e : Expr) (b : Bool) → is_zero a ≡ b → (has_terms e ≡ false → e ≡ one_form) → not b && has_terms e ≡ false → (scaled a e).constant ≡ a
constant_by a e true z one h = ap (λ (f : Expr). f.constant) (scaled_zero a e z) ∙ sym (zero_is a z)
constant_by a e false z one h =
    ap (λ (f : Expr). (scaled a f).constant) (one h) ∙ ap (λ (f : Expr). f.constant) (scaled_number a)

-- a multiple without terms is its number
constant_of : (a : ℤ) (e : Expr) → (has_terms e ≡ false → e ≡ one_form) → has_terms (scaled a e) ≡ false → (scaled a e).constant ≡ a
constant_of a e one h = constant_by a e (is_zero a) refl one (sym (terms_of_scaled a e) ∙ h)

swapped : (a b : ℤ) → b *ℤ a ≡ a *ℤ b
swapped a b = omega (arith, ints)

abbrev pub kept : Bool → Expr → Expr → Expr
kept b e f = cond b f e

times_by : (a b : ℤ) (e f : Expr) (x : Bool) → has_terms (scaled b f) ≡ x → (has_terms e ≡ false → e ≡ one_form) → (has_terms f ≡ false → f ≡ one_form) → x && has_terms (scaled a e) ≡ false
    → times_form (scaled a e) (scaled b f) ≡ scaled (a *ℤ b) (kept x e f)
times_by a b e f true h one other n =
    cond-true (has_terms (scaled b f)) _ _ h ∙ ap (λ z. scaled z (scaled b f)) (constant_of a e one n) ∙ scaled_twice a b f
times_by a b e f false h one other n =
    cond-false (has_terms (scaled b f)) _ _ h ∙ ap (λ z. scaled z (scaled a e)) (constant_of b f other h) ∙ scaled_twice b a e ∙ ap (λ z. scaled z e) (swapped a b)

-- the product of two multiples of which one has no term
pub times_of_scaled : (a b : ℤ) (e f : Expr) → (has_terms e ≡ false → e ≡ one_form) → (has_terms f ≡ false → f ≡ one_form) → has_terms (scaled b f) && has_terms (scaled a e) ≡ false
    → times_form (scaled a e) (scaled b f) ≡ scaled (a *ℤ b) (kept (has_terms (scaled b f)) e f)
times_of_scaled a b e f one other n = times_by a b e f (has_terms (scaled b f)) refl one other n

and_swap : (x y : Bool) → x && y ≡ y && x
and_swap true true = refl
and_swap true false = refl
and_swap false true = refl
and_swap false false = refl

-- both have a term
pub no_product : (at : ℕ) (e f : Expr) → has_terms f && has_terms e ≡ true → product_of at e f ≡ Err (Form at)
unfolding product_of
no_product at e f h = cond-true (has_terms e && has_terms f) _ _ (and_swap (has_terms e) (has_terms f) ∙ h)

product_in : (at : ℕ) (e f g : Expr) → has_terms f && has_terms e ≡ false → times_form e f ≡ g → product_of at e f ≡ in_range at g
unfolding product_of
product_in at e f g h t = cond-false (has_terms e && has_terms f) _ _ (and_swap (has_terms e) (has_terms f) ∙ h) ∙ ap (in_range at) t

-- the product is in range
pub product_ok : (at : ℕ) (e f g : Expr) → has_terms f && has_terms e ≡ false → times_form e f ≡ g → form_in_range g ≡ true → product_of at e f ≡ Ok g
unfolding in_range
product_ok at e f g h t r = product_in at e f g h t ∙ cond-true (form_in_range g) _ _ r

pub product_far : (at : ℕ) (e f g : Expr) → has_terms f && has_terms e ≡ false → times_form e f ≡ g → form_in_range g ≡ false → product_of at e f ≡ Err (Range at)
unfolding in_range
product_far at e f g h t r = product_in at e f g h t ∙ cond-false (form_in_range g) _ _ r
