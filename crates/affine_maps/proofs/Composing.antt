-- The value of a composition.
use Rattle.std.proofs.Common.{◌≡◌, ℕ, zero, suc, ◌<◌, ◌+◌, ◌≤◌, ◌==◌, Bool, false, IsTrue, ℤ, pos, negsuc, ◌+ℤ◌, ◌*ℤ◌, List, [], ◌∷◌, map, nat_lt, arith, ap, refl, sym, ◌∙◌, eq-eqb, inl, inr}
use Rattle.std.specs.Prelude.{if◌then◌else◌}
use Rattle.std.specs.List.{list_all}
use Rattle.std.proofs.Math.ListN.{get_or-map}
use Rattle.std.proofs.lemmas.Int.{ints}
use Rattle.std.proofs.lemmas.Bool.Decides.{nat_tests, eqb_tells}
use Rattle.affine_maps.specs.declared.map.Expr.{Expr}
use Rattle.affine_maps.specs.Shape.{MapShape}
use Rattle.affine_maps.specs.Map.{expr_fits, IsMap}
use Rattle.affine_maps.specs.Value.{weighted_sum, coordinate, value_at, map_value}
use Rattle.affine_maps.specs.Compose.{coefficient, with_term, terms_from, result_at, composed_coefficient, composed_expr, composed}
use Rattle.affine_maps.specs.Terms.{are_below}
use Rattle.affine_maps.proofs.Integers.{mul_over_add, add_over_mul, mul_assoc}
use Rattle.affine_maps.proofs.Listed.{and_left, and_right, fitting_below}

-- the sum of f over n numbers from `low` on
total : (ℕ → ℤ) → ℕ → ℕ → ℤ
total f low zero = pos 0
total f low (suc n) = f low +ℤ total f (suc low) n

total_same : (f g : ℕ → ℤ) (low n : ℕ) → ((d : ℕ) → f d ≡ g d) → total f low n ≡ total g low n
unfolding total
total_same f g low zero h = refl
total_same f g low (suc n) h = ap (λ (z : ℤ). z +ℤ total f (suc low) n) (h low) ∙ ap (λ (z : ℤ). g low +ℤ z) (total_same f g (suc low) n h)

four : (a b x y : ℤ) → (a +ℤ b) +ℤ (x +ℤ y) ≡ (a +ℤ x) +ℤ (b +ℤ y)
four a b x y = omega (arith, ints)

total_sum : (f g : ℕ → ℤ) (low n : ℕ) → total (λ d. f d +ℤ g d) low n ≡ total f low n +ℤ total g low n
unfolding total
total_sum f g low zero = refl
total_sum f g low (suc n) = ap (λ (z : ℤ). (f low +ℤ g low) +ℤ z) (total_sum f g (suc low) n) ∙ four (f low) (g low) (total f (suc low) n) (total g (suc low) n)

total_times : (c : ℤ) (f : ℕ → ℤ) (low n : ℕ) → total (λ d. c *ℤ f d) low n ≡ c *ℤ total f low n
unfolding total
total_times c f low zero = nothing c where
  nothing : (c : ℤ) → pos 0 ≡ c *ℤ pos 0
  nothing c = omega (arith, ints)
total_times c f low (suc n) = ap (λ (z : ℤ). c *ℤ f low +ℤ z) (total_times c f (suc low) n) ∙ sym (add_over_mul c (f low) (total f (suc low) n))

total_none : (f : ℕ → ℤ) (low n : ℕ) → ((d : ℕ) → low ≤ d → f d ≡ pos 0) → total f low n ≡ pos 0
unfolding total
total_none f low zero h = refl
total_none f low (suc n) h = ap (λ (z : ℤ). z +ℤ total f (suc low) n) (h low (omega arith)) ∙ ap (λ (z : ℤ). pos 0 +ℤ z) (total_none f (suc low) n (λ d p. h d (omega arith)))

-- the sum of what is 0 but at k
total_at : (k : ℕ) (f : ℕ → ℤ) (low n : ℕ) → low ≤ k → k < low + n → ((d : ℕ) → (d ≡ k → ⊥) → f d ≡ pos 0) → total f low n ≡ f k
unfolding total
total_at k f low zero h p z = absurd (omega arith)
total_at k f low (suc n) h p z = elim (eqb_tells low k) [
  | inl q ↦ let rest = total_none f (suc low) n (λ d r. z d (λ e. omega (arith, q.1))) in
      ap (λ (w : ℤ). f low +ℤ w) rest ∙ plus_none (f low) ∙ ap f q.1
  | inr q ↦ let apart : low < k = by_order low k h q.1 in
      ap (λ (w : ℤ). w +ℤ total f (suc low) n) (z low q.1) ∙ ap (λ (w : ℤ). pos 0 +ℤ w) (total_at k f (suc low) n (omega arith) (omega arith) z) ∙ none_plus (f k)
] where
  plus_none : (z : ℤ) → z +ℤ pos 0 ≡ z
  plus_none z = omega (arith, ints)

  none_plus : (z : ℤ) → pos 0 +ℤ z ≡ z
  none_plus z = omega (arith, ints)

  by_order : (a b : ℕ) → a ≤ b → (a ≡ b → ⊥) → a < b
  by_order a b h n = omega arith

weighted_with_term : (k : ℕ) (c : ℤ) (ts : List (ℕ × ℤ)) (g : ℕ → ℤ) → weighted_sum (with_term k c ts) g ≡ c *ℤ g k +ℤ weighted_sum ts g
weighted_with_term k (pos zero) ts g = nothing (g k) (weighted_sum ts g) where
  nothing : (c x : ℤ) → x ≡ pos 0 *ℤ c +ℤ x
  nothing c x = omega (arith, ints)
weighted_with_term k (pos (suc n)) ts g = refl
weighted_with_term k (negsuc n) ts g = refl

weighted_terms_from : (f g : ℕ → ℤ) (low n : ℕ) → weighted_sum (terms_from f low n) g ≡ total (λ d. f d *ℤ g d) low n
unfolding total terms_from
weighted_terms_from f g low zero = refl
weighted_terms_from f g low (suc n) = weighted_with_term low (f low) (terms_from f (suc low) n) g ∙ ap (λ (z : ℤ). f low *ℤ g low +ℤ z) (weighted_terms_from f g (suc low) n)

zero_times : (z : ℤ) → pos 0 *ℤ z ≡ pos 0
zero_times z = omega (arith, ints)

-- the sum over all dimensions of coefficient times number
by_dimensions : (g : ℕ → ℤ) (n : ℕ) (ts : List (ℕ × ℤ)) → IsTrue (are_below n ts) → total (λ d. coefficient ts d *ℤ g d) 0 n ≡ weighted_sum ts g
by_dimensions g n [] b = total_none (λ d. pos 0 *ℤ g d) 0 n (λ d _. zero_times (g d))
by_dimensions g n (t ∷ ts) b =
    let lone : ℕ → ℤ = λ d. (if t.0 == d then t.1 else pos 0) *ℤ g d in
    let below : t.0 < n = (let q = and_left (nat_lt t.0 n) (are_below n ts) b in grind (arith, nat_tests)) in
    let at : lone t.0 ≡ t.1 *ℤ g t.0 = ap (λ (x : Bool). (if x then t.1 else pos 0) *ℤ g t.0) (eq-eqb t.0 t.0 refl) in
    let off : (d : ℕ) → (d ≡ t.0 → ⊥) → lone d ≡ pos 0 = λ d ne. let no : (t.0 == d) ≡ false = apart t.0 d ne in ap (λ (x : Bool). (if x then t.1 else pos 0) *ℤ g d) no ∙ zero_times (g d) in
    total_same _ (λ d. lone d +ℤ coefficient ts d *ℤ g d) 0 n (λ d. mul_over_add (if t.0 == d then t.1 else pos 0) (coefficient ts d) (g d))
    ∙ total_sum lone (λ d. coefficient ts d *ℤ g d) 0 n
    ∙ ap (λ (z : ℤ). z +ℤ total (λ d. coefficient ts d *ℤ g d) 0 n) (total_at t.0 lone 0 n (omega arith) (omega arith) off ∙ at)
    ∙ ap (λ (z : ℤ). t.1 *ℤ g t.0 +ℤ z) (by_dimensions g n ts (and_right _ _ b)) where
      apart : (a d : ℕ) → (d ≡ a → ⊥) → (a == d) ≡ false
      apart a d ne = grind (arith, nat_tests)

-- the order of the two sums may be changed
weighted_totals : (h : ℕ → ℕ → ℤ) (g : ℕ → ℤ) (n : ℕ) (ts : List (ℕ × ℤ)) →
    total (λ d. weighted_sum ts (λ k. h k d) *ℤ g d) 0 n ≡ weighted_sum ts (λ k. total (λ d. h k d *ℤ g d) 0 n)
weighted_totals h g n [] = total_none (λ d. pos 0 *ℤ g d) 0 n (λ d _. zero_times (g d))
weighted_totals h g n (t ∷ ts) =
    total_same _ (λ d. t.1 *ℤ (h t.0 d *ℤ g d) +ℤ weighted_sum ts (λ k. h k d) *ℤ g d) 0 n
    (λ d. mul_over_add (t.1 *ℤ h t.0 d) (weighted_sum ts (λ k. h k d)) (g d) ∙ ap (λ (z : ℤ). z +ℤ weighted_sum ts (λ k. h k d) *ℤ g d) (mul_assoc t.1 (h t.0 d) (g d)))
    ∙ total_sum (λ d. t.1 *ℤ (h t.0 d *ℤ g d)) (λ d. weighted_sum ts (λ k. h k d) *ℤ g d) 0 n
    ∙ ap (λ (z : ℤ). z +ℤ total (λ d. weighted_sum ts (λ k. h k d) *ℤ g d) 0 n) (total_times t.1 (λ d. h t.0 d *ℤ g d) 0 n)
    ∙ ap (λ (z : ℤ). t.1 *ℤ total (λ d. h t.0 d *ℤ g d) 0 n +ℤ z) (weighted_totals h g n ts)

weighted_same : (f g : ℕ → ℤ) (ts : List (ℕ × ℤ)) → ((k : ℕ) → f k ≡ g k) → weighted_sum ts f ≡ weighted_sum ts g
weighted_same f g [] h = refl
weighted_same f g (t ∷ ts) h = ap (λ (z : ℤ). t.1 *ℤ z +ℤ weighted_sum ts f) (h t.0) ∙ ap (λ (z : ℤ). t.1 *ℤ g t.0 +ℤ z) (weighted_same f g ts h)

weighted_plus : (f g : ℕ → ℤ) (ts : List (ℕ × ℤ)) → weighted_sum ts (λ k. f k +ℤ g k) ≡ weighted_sum ts f +ℤ weighted_sum ts g
weighted_plus f g [] = refl
weighted_plus f g (t ∷ ts) =
    ap (λ (z : ℤ). z +ℤ weighted_sum ts (λ k. f k +ℤ g k)) (add_over_mul t.1 (f t.0) (g t.0))
    ∙ ap (λ (z : ℤ). (t.1 *ℤ f t.0 +ℤ t.1 *ℤ g t.0) +ℤ z) (weighted_plus f g ts) ∙ four (t.1 *ℤ f t.0) (t.1 *ℤ g t.0) (weighted_sum ts f) (weighted_sum ts g)

-- a result's terms name dimensions of the inner map alone
pub result_below : (dims : ℕ) (results : List Expr) (k : ℕ) → IsTrue (list_all (expr_fits dims) results) → IsTrue (are_below dims (result_at results k).terms)
result_below dims [] k h = refl
result_below dims (e ∷ es) zero h = fitting_below dims e.terms 0 (and_right _ _ (and_left _ _ h))
result_below dims (e ∷ es) (suc k) h = result_below dims es k (and_right _ _ h)

-- an expression's value where each dimension has the value of the result that takes its place
value-composed_expr : (inner : MapShape) (e : Expr) (point : List ℤ) → IsMap inner →
    value_at (composed_expr inner.dims inner.results e) point ≡ value_at e (map_value inner point)
value-composed_expr inner e point m =
    let g : ℕ → ℤ = coordinate point in
    let constants : ℕ → ℤ = λ k. (result_at inner.results k).constant in
    let sums : ℕ → ℤ = λ k. weighted_sum (result_at inner.results k).terms g in
    let linear = weighted_terms_from (composed_coefficient inner.results e) g 0 inner.dims
    ∙ weighted_totals (λ k d. coefficient (result_at inner.results k).terms d) g inner.dims e.terms
    ∙ weighted_same _ sums e.terms (λ k. by_dimensions g inner.dims (result_at inner.results k).terms (result_below inner.dims inner.results k m)) in
    let values = weighted_same (coordinate (map_value inner point)) (λ k. constants k +ℤ sums k) e.terms
    (λ k. get_or-map (λ (r : Expr). value_at r point) inner.results k (record { constant = pos 0; terms = [] })) ∙ weighted_plus constants sums e.terms in
    ap (λ (z : ℤ). (e.constant +ℤ weighted_sum e.terms constants) +ℤ z) linear
    ∙ regroup e.constant (weighted_sum e.terms constants) (weighted_sum e.terms sums)
    ∙ ap (λ (z : ℤ). e.constant +ℤ z) (sym values) where
      regroup : (a b c : ℤ) → (a +ℤ b) +ℤ c ≡ a +ℤ (b +ℤ c)
      regroup a b c = omega (arith, ints)

values_composed : (inner : MapShape) (results : List Expr) (point : List ℤ) → IsMap inner →
    map (λ r. value_at r point) (map (composed_expr inner.dims inner.results) results) ≡ map (λ r. value_at r (map_value inner point)) results
values_composed inner [] point m = refl
values_composed inner (e ∷ es) point m =
    ap (λ (z : ℤ). z ∷ map (λ r. value_at r point) (map (composed_expr inner.dims inner.results) es)) (value-composed_expr inner e point m)
    ∙ ap (λ (zs : List ℤ). value_at e (map_value inner point) ∷ zs) (values_composed inner es point m)

-- the composition's value is the outer map's at the inner map's
pub value-composed : (outer inner : MapShape) (point : List ℤ) → IsMap inner → map_value (composed outer inner) point ≡ map_value outer (map_value inner point)
value-composed outer inner point m = values_composed inner outer.results point m
