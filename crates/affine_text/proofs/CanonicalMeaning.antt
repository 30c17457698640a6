-- The canonical tree of a map is a map's tree and means the map.
use Rattle.std.proofs.Common.{◌≡◌, ◌<◌, ◌≤◌, ◌^◌, ℕ, suc, ◌+◌, Bool, true, false, cond, ℤ, pos, negsuc, ◌+ℤ◌, ◌*ℤ◌, List, [], ◌∷◌, ◌++◌, map, length, unsigned_abs, decimal, nat_eq, Option, None, unwrap_or, Result, Ok, refl, sym, ap, ◌∙◌, append_assoc, arith}
use Rattle.std.specs.List.{AllByRecursion}
use Rattle.std.specs.Map.{lookup}
use Rattle.std.specs.Ordering.{nat_cmp, is_eq, match_ordering}
use Rattle.std.specs.Cmp.{nat_cmp_is}
use Rattle.std.specs.declared.cmp.Ordering.TheVariants.{Greater}
use Rattle.std.specs.BTreeMap.{insert_entry, is_at}
use Rattle.std.proofs.lemmas.Fmt.{decimal_is_IsNumeral}
use Rattle.std.proofs.lemmas.Int.{ints}
use Rattle.std.proofs.lemmas.List.{append-nil}
use Rattle.std.proofs.lemmas.Bool.{cond-true, cond-false, and_parts, and_from, leb-true, eqb-true, ne_eqb}
use Rattle.text_format.specs.declared.class.Class.{Class}
use Rattle.mlir_base.specs.Numbers.{is_in_range}
use Rattle.affine_maps.specs.Shape.{MapShape}
use Rattle.affine_maps.specs.declared.map.Expr.{Expr}
use Rattle.affine_maps.specs.Map.{IsMap}
use Rattle.affine_text.specs.declared.reading.fault.MapError.{MapError}
use Rattle.affine_text.specs.Grammar.{Factor, Name, Number, Negative, NoFactor, Times, Products, NoProduct, factor_end, factors_end, names_in}
use Rattle.affine_text.specs.Collected.{is_zero, constant_form, dimension_form, terms_in_range, form_in_range, coefficient, with_coefficient, plus_term, plus_terms, plus_form, negative_form}
use Rattle.affine_text.specs.Meaning.{and_then, in_range, product_of, sum_of, zero_form, one_form, factor_form, factors_form, products_form, sum_form, other_results, results_form, meaning}
use Rattle.affine_text.specs.Text.{dimension_text, is_one, is_minus_one}
use Rattle.affine_text.specs.Canonical.{Writer, behind, Product, negative, dimension, number, signed_number, times, first_term, multiple, joined, later_terms, no_product, alone, expression_by, expression, others, dimensions, results, map_tree}
use Rattle.affine_text.proofs.Scaling.{zero_is, scaled_other, scaled_one, scaled_number, product_ok}
use Rattle.affine_text.proofs.MapRule.{AreTerms, Rises, IsOver, results_over}
use Rattle.affine_text.proofs.CanonicalNames.{AreNumbered, numbered, names_to, how_many, dimensions_named}

-- ---- forms

abbrev pub form : ℤ → List (ℕ × ℤ) → Expr
form z ts = record { constant = z; terms = ts }

-- one term
abbrev pub term_form : ℕ → ℤ → Expr
term_form k z = form (pos 0) ((k, z) ∷ [])

kept : (at : ℕ) (e : Expr) → form_in_range e ≡ true → in_range at e ≡ Ok e
unfolding in_range
kept at e h = cond-true (form_in_range e) _ _ h

small : (z : ℤ) → is_in_range z ≡ true → unsigned_abs z ≤ 2 ^ 31
small z h = leb-true (unsigned_abs z) (2 ^ 31) h

abs_in_range : (z : ℤ) → is_in_range z ≡ true → is_in_range (pos (unsigned_abs z)) ≡ true
abs_in_range z h = h

constant_in_range : (z : ℤ) → is_in_range z ≡ true → form_in_range (constant_form z) ≡ true
constant_in_range z h = and_from (is_in_range z) true h refl

term_in_range : (k : ℕ) (z : ℤ) → is_in_range z ≡ true → form_in_range (term_form k z) ≡ true
term_in_range k z h = and_from (is_in_range z) true h refl

turned_constant : (n : ℕ) → negative_form (constant_form (pos (suc n))) ≡ constant_form (negsuc n)
turned_constant n =
    let e : negsuc 0 *ℤ pos (suc n) ≡ negsuc n = omega (arith, ints) in
    scaled_other (negsuc 0) (constant_form (pos (suc n))) refl ∙ ap constant_form e

turned_term : (k n : ℕ) → negative_form (term_form k (pos (suc n))) ≡ term_form k (negsuc n)
turned_term k n =
    let e : negsuc 0 *ℤ pos (suc n) ≡ negsuc n = omega (arith, ints) in
    scaled_other (negsuc 0) (term_form k (pos (suc n))) refl ∙ ap (term_form k) e

-- a form is 1 times itself
one_times : (at : ℕ) (z : ℤ) (ts : List (ℕ × ℤ)) → form_in_range (form z ts) ≡ true → product_of at one_form (form z ts) ≡ Ok (form z ts)
one_times at z [] h = product_ok at one_form (form z []) (form z []) refl (scaled_number z) h
one_times at z (t ∷ ts) h = product_ok at one_form (form z (t ∷ ts)) (form z (t ∷ ts)) refl (scaled_one (form z (t ∷ ts))) h

not_zero : (z : ℤ) → 0 < unsigned_abs z → is_zero z ≡ false
not_zero z h = ne_eqb (unsigned_abs z) 0 (λ e. absurd (omega (arith, e, h)))

-- a dimension times a number
dimension_times : (at k : ℕ) (z : ℤ) → 0 < unsigned_abs z → is_in_range z ≡ true → product_of at (dimension_form k) (constant_form z) ≡ Ok (term_form k z)
dimension_times at k z some h =
    let e : z *ℤ pos 0 ≡ pos 0 = omega (arith, ints) in
    let f : z *ℤ pos 1 ≡ z = omega (arith, ints) in
    product_ok at (dimension_form k) (constant_form z) (term_form k z) refl
    (scaled_other z (dimension_form k) (not_zero z some) ∙ ap (λ n. form n ((k, z *ℤ pos 1) ∷ [])) e ∙ ap (term_form k) f)
    (term_in_range k z h)

-- ---- sums

-- the dimensions stand before this one
abbrev Before : ℕ → List (ℕ × ℤ) → Type 0
Before k ts = AllByRecursion (λ t. t.0 < k) ts

after_it : (k j : ℕ) → j < k → Greater ≡ nat_cmp k j
after_it k j h = nat_cmp_is k j Greater h

no_coefficient : (k : ℕ) (ts : List (ℕ × ℤ)) → Before k ts → lookup (is_at (nat_cmp k)) ts ≡ None
no_coefficient k [] h = refl
no_coefficient k (t ∷ ts) h = cond-false (is_at (nat_cmp k) t.0) _ _ (ap is_eq (sym (after_it k t.0 h.0))) ∙ no_coefficient k ts h.1

inserted_last : (k : ℕ) (z : ℤ) (ts : List (ℕ × ℤ)) → Before k ts → insert_entry nat_cmp ts k z ≡ ts ++ (k, z) ∷ []
inserted_last k z [] h = refl
inserted_last k z (t ∷ ts) h =
    ap (λ o. match_ordering o ((k, z) ∷ t ∷ ts) ((t.0, z) ∷ ts) (t ∷ insert_entry nat_cmp ts k z)) (sym (after_it k t.0 h.0)) ∙ ap (λ (us : List (ℕ × ℤ)). t ∷ us) (inserted_last k z ts h.1)

one_more_term : (k : ℕ) (z : ℤ) (ts : List (ℕ × ℤ)) → Before k ts → 0 < unsigned_abs z → plus_terms ts ((k, z) ∷ []) ≡ ts ++ (k, z) ∷ []
unfolding plus_terms plus_term coefficient with_coefficient
one_more_term k z ts h some =
    let none : coefficient ts k ≡ pos 0 = ap (λ o. unwrap_or o (pos 0)) (no_coefficient k ts h) in
    let e : pos 0 +ℤ z ≡ z = omega (arith, ints) in
    ap (with_coefficient ts k) (ap (λ n. n +ℤ z) none ∙ e) ∙ cond-false (is_zero z) _ _ (not_zero z some) ∙ inserted_last k z ts h

in_range_append : (k : ℕ) (z : ℤ) (ts : List (ℕ × ℤ)) → terms_in_range ts ≡ true → is_in_range z ≡ true → terms_in_range (ts ++ (k, z) ∷ []) ≡ true
in_range_append k z [] h r = and_from (is_in_range z) true r refl
in_range_append k z (t ∷ ts) h r = let p = and_parts (is_in_range t.1) (terms_in_range ts) h in and_from (is_in_range t.1) (terms_in_range (ts ++ (k, z) ∷ [])) p.0 (in_range_append k z ts p.1 r)

add_term : (at k : ℕ) (z : ℤ) (ts : List (ℕ × ℤ)) → Before k ts → terms_in_range ts ≡ true → 0 < unsigned_abs z → is_in_range z ≡ true → sum_of false at (form (pos 0) ts) (term_form k z) ≡ Ok (form (pos 0) (ts ++ (k, z) ∷ []))
unfolding sum_of
add_term at k z ts b h some r = ap (λ us. in_range at (form (pos 0) us)) (one_more_term k z ts b some) ∙ kept at (form (pos 0) (ts ++ (k, z) ∷ [])) (in_range_append k z ts h r)

abbrev is_below : ℤ → Bool
is_below (pos n) = false
is_below (negsuc n) = true

add_signed : (at k : ℕ) (z : ℤ) (ts : List (ℕ × ℤ)) → Before k ts → terms_in_range ts ≡ true → 0 < unsigned_abs z → is_in_range z ≡ true
    → sum_of (is_below z) at (form (pos 0) ts) (term_form k (pos (unsigned_abs z))) ≡ Ok (form (pos 0) (ts ++ (k, z) ∷ []))
unfolding sum_of
add_signed at k (pos n) ts b h some r = add_term at k (pos n) ts b h some r
add_signed at k (negsuc n) ts b h some r = ap (λ f. in_range at (plus_form (form (pos 0) ts) f)) (turned_term k n) ∙ add_term at k (negsuc n) ts b h some r

add_number : (at : ℕ) (z : ℤ) (ts : List (ℕ × ℤ)) → terms_in_range ts ≡ true → is_in_range z ≡ true → sum_of false at (form (pos 0) ts) (constant_form z) ≡ Ok (form z ts)
unfolding sum_of plus_terms
add_number at z ts h r =
    let e : pos 0 +ℤ z ≡ z = omega (arith, ints) in
    ap (λ n. in_range at (form n ts)) e ∙ kept at (form z ts) (and_from (is_in_range z) (terms_in_range ts) r h)

add_constant : (at : ℕ) (z : ℤ) (ts : List (ℕ × ℤ)) → terms_in_range ts ≡ true → is_in_range z ≡ true → sum_of (is_below z) at (form (pos 0) ts) (constant_form (pos (unsigned_abs z))) ≡ Ok (form z ts)
unfolding sum_of
add_constant at (pos n) ts h r = add_number at (pos n) ts h r
add_constant at (negsuc n) ts h r = ap (λ f. in_range at (plus_form (form (pos 0) ts) f)) (turned_constant n) ∙ add_number at (negsuc n) ts h r

-- ---- factors

number_means : (n at : ℕ) (names : List (List ℕ)) → is_in_range (pos n) ≡ true → factor_form (Number at (decimal n)) names ≡ Ok (constant_form (pos n))
unfolding factor_form
number_means n at names h =
    let s : n < 2 ^ 64 = omega (arith, small (pos n) h) in
    ap (λ k. in_range at (constant_form (pos k))) (decimal_is_IsNumeral n s).1 ∙ kept at (constant_form (pos n)) (constant_in_range (pos n) h)

dimension_means : (dims k at : ℕ) (names : List (List ℕ)) → AreNumbered dims names → k < dims → factor_form (Name at (dimension_text k)) names ≡ Ok (dimension_form k)
unfolding factor_form
dimension_means dims k at names h s = ap (λ (o : Option ℕ). Ok (dimension_form (unwrap_or o 0))) (h k s)

negative_means : (at : ℕ) (f : Factor) (e : Expr) (names : List (List ℕ)) → factor_form f names ≡ Ok e → factor_form (Negative at f) names ≡ Ok (negative_form e)
unfolding factor_form
negative_means at f e names h = ap (λ r. and_then r (λ x. Ok (negative_form x))) h

signed_means : (c : Class) (z : ℤ) (at : ℕ) (names : List (List ℕ)) → is_in_range z ≡ true → factor_form ((signed_number c z).tree at) names ≡ Ok (constant_form z)
signed_means c (pos n) at names h = number_means n at names h
signed_means c (negsuc n) at names h =
    negative_means at (Number (at + 1) (decimal (suc n))) (constant_form (pos (suc n))) names (number_means (suc n) (at + 1) names h) ∙ ap (λ (e : Expr). Ok e) (turned_constant n)

-- ---- products

-- the product has this meaning, of which more is made
pub record Means (names : List (List ℕ)) (p : Product) (e : Expr) : Type 0 where
  pub law : (k : Expr → Result Expr MapError) → and_then (factor_form p.0 names) (λ g. and_then (product_of (factor_end p.0) one_form g) (λ h. and_then (factors_form p.1 names h) k)) ≡ k e

alone_means : (names : List (List ℕ)) (f : Factor) (z : ℤ) (ts : List (ℕ × ℤ)) → factor_form f names ≡ Ok (form z ts) → form_in_range (form z ts) ≡ true → Means names (f, NoFactor) (form z ts)
unfolding factor_form
alone_means names f z ts e r = record {
  law = λ k.
      ap (λ m. and_then m (λ g. and_then (product_of (factor_end f) one_form g) (λ h. and_then (factors_form NoFactor names h) k))) e
      ∙ ap (λ m. and_then m (λ h. and_then (factors_form NoFactor names h) k)) (one_times (factor_end f) z ts r);
}

times_means : (names : List (List ℕ)) (f g : Factor) (at k : ℕ) (z : ℤ) → factor_form f names ≡ Ok (dimension_form k) → factor_form g names ≡ Ok (constant_form z) → 0 < unsigned_abs z → is_in_range z ≡ true
    → Means names (f, Times at g NoFactor) (term_form k z)
unfolding factor_form
times_means names f g at k z e d some r = record {
  law = λ l.
      ap (λ m. and_then m (λ x. and_then (product_of (factor_end f) one_form x) (λ h. and_then (factors_form (Times at g NoFactor) names h) l))) e
      ∙ ap (λ m. and_then m (λ h. and_then (factors_form (Times at g NoFactor) names h) l)) (one_times (factor_end f) (pos 0) ((k, pos 1) ∷ []) refl)
      ∙ ap (λ m. and_then (and_then m (λ y. and_then (product_of (factor_end g) (dimension_form k) y) (factors_form NoFactor names))) l) d
      ∙ ap (λ m. and_then (and_then m (factors_form NoFactor names)) l) (dimension_times (factor_end g) k z some r);
}

one_is : (z : ℤ) → is_one z ≡ true → z ≡ pos 1
one_is (pos n) e = ap pos (eqb-true n 1 e)
one_is (negsuc n) e = absurd (cc e)

minus_one_is : (z : ℤ) → is_minus_one z ≡ true → z ≡ negsuc 0
minus_one_is (pos n) e = absurd (cc e)
minus_one_is (negsuc n) e = ap negsuc (eqb-true n 0 e)

turned_dimension : (k : ℕ) → negative_form (dimension_form k) ≡ term_form k (negsuc 0)
turned_dimension k = turned_term k 0

first_by : (c : Class) (dims k at : ℕ) (z : ℤ) (names : List (List ℕ)) (one minus : Bool) → AreNumbered dims names → k < dims → 0 < unsigned_abs z → is_in_range z ≡ true → is_one z ≡ one → is_minus_one z ≡ minus
    → Means names ((cond one (alone (dimension c k)) (cond minus (alone (negative c (dimension c k))) (times c (dimension c k) (signed_number c z)))).tree at) (term_form k z)
first_by c dims k at z names true minus n s some r e f =
    alone_means names (Name at (dimension_text k)) (pos 0) ((k, z) ∷ []) (dimension_means dims k at names n s ∙ ap (λ y. Ok (term_form k y)) (sym (one_is z e))) (term_in_range k z r)
first_by c dims k at z names false true n s some r e f =
    alone_means names (Negative at (Name (at + 1) (dimension_text k))) (pos 0) ((k, z) ∷ [])
    (negative_means at (Name (at + 1) (dimension_text k)) (dimension_form k) names (dimension_means dims k (at + 1) names n s) ∙ ap (λ (x : Expr). Ok x) (turned_dimension k) ∙ ap (λ y. Ok (term_form k y)) (sym (minus_one_is z f)))
    (term_in_range k z r)
first_by c dims k at z names false false n s some r e f =
    times_means names (Name at (dimension_text k)) ((signed_number c z).tree (behind (dimension c k) at + 1 + 1 + 1)) (behind (dimension c k) at + 1) k z (dimension_means dims k at names n s)
    (signed_means c z (behind (dimension c k) at + 1 + 1 + 1) names r) some r

multiple_by : (c : Class) (dims k at n : ℕ) (names : List (List ℕ)) (one : Bool) → AreNumbered dims names → k < dims → 0 < n → is_in_range (pos n) ≡ true → nat_eq n 1 ≡ one
    → Means names ((cond one (alone (dimension c k)) (times c (dimension c k) (number c n))).tree at) (term_form k (pos n))
multiple_by c dims k at n names true h s some r e =
    alone_means names (Name at (dimension_text k)) (pos 0) ((k, pos n) ∷ []) (dimension_means dims k at names h s ∙ ap (λ j. Ok (term_form k (pos j))) (sym (eqb-true n 1 e))) (term_in_range k (pos n) r)
multiple_by c dims k at n names false h s some r e =
    times_means names (Name at (dimension_text k)) (Number (behind (dimension c k) at + 1 + 1 + 1) (decimal n)) (behind (dimension c k) at + 1) k (pos n) (dimension_means dims k at names h s)
    (number_means n (behind (dimension c k) at + 1 + 1 + 1) names r) some r

-- ---- the other products

joined_means : (c : Class) (z : ℤ) (p : Writer Product) (ps : Writer Products) (at : ℕ) (names : List (List ℕ)) (e q d : Expr) → Means names (p.tree (at + 1 + 1 + 1)) q → ((last : ℕ) → sum_of (is_below z) last e q ≡ Ok d)
    → products_form ((joined c z p ps).tree at) names e ≡ products_form (ps.tree (behind p (at + 1 + 1 + 1))) names d
unfolding factor_form
joined_means c (pos n) p ps at names e q d h s =
    let t = p.tree (at + 1 + 1 + 1) in
    let more = products_form (ps.tree (behind p (at + 1 + 1 + 1))) names in
    h.law (λ x. and_then (sum_of false (factors_end t.1 (factor_end t.0)) e x) more) ∙ ap (λ m. and_then m more) (s (factors_end t.1 (factor_end t.0)))
joined_means c (negsuc n) p ps at names e q d h s =
    let t = p.tree (at + 1 + 1 + 1) in
    let more = products_form (ps.tree (behind p (at + 1 + 1 + 1))) names in
    h.law (λ x. and_then (sum_of true (factors_end t.1 (factor_end t.0)) e x) more) ∙ ap (λ m. and_then m more) (s (factors_end t.1 (factor_end t.0)))

constant_by : (c : Class) (z : ℤ) (at : ℕ) (ts : List (ℕ × ℤ)) (names : List (List ℕ)) (none : Bool) → terms_in_range ts ≡ true → is_in_range z ≡ true → nat_eq (unsigned_abs z) 0 ≡ none
    → products_form ((cond none no_product (joined c z (alone (number c (unsigned_abs z))) no_product)).tree at) names (form (pos 0) ts) ≡ Ok (form z ts)
unfolding factor_form
constant_by c z at ts names true h r e = ap (λ n. Ok (form n ts)) (sym (zero_is z e))
constant_by c z at ts names false h r e =
    joined_means c z (alone (number c (unsigned_abs z))) no_product at names (form (pos 0) ts) (constant_form (pos (unsigned_abs z))) (form z ts)
    (alone_means names (Number (at + 1 + 1 + 1) (decimal (unsigned_abs z))) (pos (unsigned_abs z)) [] (number_means (unsigned_abs z) (at + 1 + 1 + 1) names (abs_in_range z r)) (constant_in_range (pos (unsigned_abs z)) (abs_in_range z r)))
    (λ last. add_constant last z ts h r)

before_more : (k j : ℕ) (z : ℤ) (ts : List (ℕ × ℤ)) → Before k ts → k < j → Before j (ts ++ (k, z) ∷ [])
before_more k j z [] h l = (l, tt)
before_more k j z (t ∷ ts) h l = (omega (arith, h.0, l), before_more k j z ts h.1 l)

before_later : (low k : ℕ) (ts : List (ℕ × ℤ)) → Before low ts → low ≤ k → Before k ts
before_later low k [] h l = tt
before_later low k (t ∷ ts) h l = (omega (arith, h.0, l), before_later low k ts h.1 l)

-- the terms are added one by one behind those so far, and then the constant
later_means : (c : Class) (dims low at : ℕ) (ts so_far : List (ℕ × ℤ)) (z : ℤ) (names : List (List ℕ)) → AreNumbered dims names → AreTerms dims ts → Rises low ts → Before low so_far → terms_in_range so_far ≡ true → is_in_range z ≡ true
    → products_form ((later_terms c ts z).tree at) names (form (pos 0) so_far) ≡ Ok (form z (so_far ++ ts))
later_means c dims low at [] so_far z names n a r b h i = constant_by c z at so_far names (nat_eq (unsigned_abs z) 0) h i refl ∙ ap (λ ts. Ok (form z ts)) (sym (append-nil so_far))
later_means c dims low at (t ∷ ts) so_far z names n a r b h i =
    let w = multiple c t.0 (unsigned_abs t.1) in
    let k = before_later low t.0 so_far b r.0 in
    joined_means c t.1 w (later_terms c ts z) at names (form (pos 0) so_far) (term_form t.0 (pos (unsigned_abs t.1))) (form (pos 0) (so_far ++ t ∷ []))
    (multiple_by c dims t.0 (at + 1 + 1 + 1) (unsigned_abs t.1) names (nat_eq (unsigned_abs t.1) 1) n a.0.below a.0.some (abs_in_range t.1 a.0.in_range) refl)
    (λ last. add_signed last t.0 t.1 so_far k h a.0.some a.0.in_range)
    ∙ later_means c dims (t.0 + 1) (behind w (at + 1 + 1 + 1)) ts (so_far ++ t ∷ []) z names n a.1 r.1 (before_more t.0 (t.0 + 1) t.1 so_far k (omega arith)) (in_range_append t.0 t.1 so_far h a.0.in_range) i
    ∙ ap (λ us. Ok (form z us)) (append_assoc so_far (t ∷ []) ts)

-- ---- expressions

expression_by_means : (c : Class) (dims at : ℕ) (ts : List (ℕ × ℤ)) (z : ℤ) (names : List (List ℕ)) → AreNumbered dims names → AreTerms dims ts → Rises 0 ts → is_in_range z ≡ true → sum_form ((expression_by c ts z).tree at) names ≡ Ok (form z ts)
unfolding factor_form
expression_by_means c dims at [] z names n a r i =
    let f = (signed_number c z).tree at in
    (alone_means names f z [] (signed_means c z at names i) (constant_in_range z i)).law (λ q. and_then (sum_of false (factors_end NoFactor (factor_end f)) zero_form q) (products_form NoProduct names))
    ∙ ap (λ m. and_then m (products_form NoProduct names)) (add_number (factors_end NoFactor (factor_end f)) z [] refl i)
expression_by_means c dims at (t ∷ ts) z names n a r i =
    let p = (first_term c t).tree at in
    let more = products_form ((later_terms c ts z).tree (behind (first_term c t) at)) names in
    (first_by c dims t.0 at t.1 names (is_one t.1) (is_minus_one t.1) n a.0.below a.0.some a.0.in_range refl refl).law (λ q. and_then (sum_of false (factors_end p.1 (factor_end p.0)) zero_form q) more)
    ∙ ap (λ m. and_then m more) (add_term (factors_end p.1 (factor_end p.0)) t.0 t.1 [] tt refl a.0.some a.0.in_range)
    ∙ later_means c dims (t.0 + 1) (behind (first_term c t) at) ts (t ∷ []) z names n a.1 r.1 (omega arith, tt) (and_from (is_in_range t.1) true a.0.in_range refl) i

expression_means : (c : Class) (dims at : ℕ) (e : Expr) (names : List (List ℕ)) → AreNumbered dims names → IsOver dims e → sum_form ((expression c e).tree at) names ≡ Ok e
expression_means c dims at e names n h = expression_by_means c dims at e.terms e.constant names n h.terms h.rises h.constant

-- ---- maps

others_mean : (c : Class) (dims at : ℕ) (es so_far : List Expr) (names : List (List ℕ)) → AreNumbered dims names → AllByRecursion (IsOver dims) es
    → other_results ((others (map (expression c) es)).tree at) names so_far ≡ Ok (record { dims = length names; results = so_far ++ es })
others_mean c dims at [] so_far names n h = ap (λ es. Ok (record { dims = length names; results = es })) (sym (append-nil so_far))
others_mean c dims at (e ∷ es) so_far names n h =
    let next = behind (expression c e) (at + 1 + 1) in
    ap (λ m. and_then m (λ x. other_results ((others (map (expression c) es)).tree next) names (so_far ++ x ∷ []))) (expression_means c dims (at + 1 + 1) e names n h.0)
    ∙ others_mean c dims next es (so_far ++ e ∷ []) names n h.1
    ∙ ap (λ xs. Ok (record { dims = length names; results = xs })) (append_assoc so_far (e ∷ []) es)

results_mean : (c : Class) (dims at : ℕ) (es : List Expr) (names : List (List ℕ)) → AreNumbered dims names → AllByRecursion (IsOver dims) es → results_form ((results c es).tree at) names ≡ Ok (record { dims = length names; results = es })
unfolding results
results_mean c dims at [] names n h = refl
results_mean c dims at (e ∷ es) names n h =
    let next = behind (expression c e) at in
    ap (λ m. and_then m (λ x. other_results ((others (map (expression c) es)).tree next) names (x ∷ []))) (expression_means c dims at e names n h.0) ∙ others_mean c dims next es (e ∷ []) names n h.1

-- the names of the tree are d0, d1, ..
tree_names : (c : Class) (at : ℕ) (m : MapShape) → names_in (map_tree c at m) ≡ names_to m.dims
unfolding map_tree
tree_names c at m = dimensions_named c m.dims (at + 10 + 1 + 1)

-- the canonical tree means the map
pub map_means : (c : Class) (at : ℕ) (m : MapShape) → IsMap m → meaning (map_tree c at m) ≡ Ok m
unfolding map_tree
map_means c at m i =
    let sums = behind (dimensions c m.dims) (at + 10 + 1 + 1) + 1 + 1 + 2 + 1 + 1 in
    ap (results_form ((results c m.results).tree sums)) (tree_names c at m)
    ∙ results_mean c m.dims sums m.results (names_to m.dims) (numbered m.dims) (results_over m.dims m.results i)
    ∙ ap (λ n. Ok (record { dims = n; results = m.results })) (how_many m.dims)
