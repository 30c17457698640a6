-- A composition of maps without negative numbers has none.
use Rattle.std.proofs.Common.{◌≡◌, ℕ, zero, suc, ◌+◌, ◌*◌, ◌==◌, ◌&&◌, Bool, true, false, ℤ, pos, negsuc, List, [], ◌∷◌, map, refl, ap, ◌∙◌, arith, le-leb}
use Rattle.std.specs.Prelude.{int_le, ◌+ℤ◌, ◌*ℤ◌, if◌then◌else◌}
use Rattle.std.specs.List.{list_all}
use Rattle.std.proofs.lemmas.Bool.{and_parts}
use Rattle.affine_maps.specs.Compose.{composed_expr, composed_constant, composed_coefficient, coefficient, result_at, terms_from, with_term}
use Rattle.affine_maps.specs.Shape.{MapShape}
use Rattle.affine_maps.specs.Value.{weighted_sum}
use Rattle.affine_maps.specs.declared.map.Expr.{Expr}
use Rattle.mlir_meaning.specs.Grids.{count_up}
use Rattle.mlir_verify.specs.Maps.{is_not_negative}
use Rattle.point_laws.specs.Orders.{turned}
use Rattle.fuse_laws.specs.Fused.{pulled}

abbrev IsNatural : ℤ → Type 0
IsNatural z = (n : ℕ) × (z ≡ pos n)

natural : (z : ℤ) → int_le (pos 0) z ≡ true → IsNatural z
natural (pos n) h = (n, refl)
natural (negsuc n) h = absurd cc

sum_natural : (a b : ℤ) → IsNatural a → IsNatural b → IsNatural (a +ℤ b)
sum_natural a b x y = (x.0 + y.0, λ j. x.1 j +ℤ y.1 j)

product_natural : (a b : ℤ) → IsNatural a → IsNatural b → IsNatural (a *ℤ b)
product_natural a b x y = (x.0 * y.0, λ j. x.1 j *ℤ y.1 j)

sign : (z : ℤ) → IsNatural z → int_le (pos 0) z ≡ true
sign z h = ap (int_le (pos 0)) h.1 ∙ le-leb 0 h.0 (omega arith)

abbrev are_naturals : List (ℕ × ℤ) → Bool
are_naturals = list_all (λ (t : ℕ × ℤ). int_le (pos 0) t.1)

weighted : (ts : List (ℕ × ℤ)) (f : ℕ → ℤ) → are_naturals ts ≡ true → ((k : ℕ) → IsNatural (f k)) → IsNatural (weighted_sum ts f)
weighted [] f h n = (0, refl)
weighted (t ∷ ts) f h n =
    let parts = and_parts (int_le (pos 0) t.1) (are_naturals ts) h in
    sum_natural (t.1 *ℤ f t.0) (weighted_sum ts f) (product_natural t.1 (f t.0) (natural t.1 parts.0) (n t.0)) (weighted ts f parts.1 n)

coefficient_natural : (ts : List (ℕ × ℤ)) (d : ℕ) → are_naturals ts ≡ true → IsNatural (coefficient ts d)
coefficient_natural [] d h = (0, refl)
coefficient_natural (t ∷ ts) d h =
    let parts = and_parts (int_le (pos 0) t.1) (are_naturals ts) h in
    sum_natural (if t.0 == d then t.1 else pos 0) (coefficient ts d) (by (t.0 == d) (natural t.1 parts.0)) (coefficient_natural ts d parts.1)
  where
    by : (b : Bool) → IsNatural t.1 → IsNatural (if b then t.1 else pos 0)
    by true n = n
    by false n = (0, refl)

module _ (co : ℕ → ℤ) (all : (d : ℕ) → IsNatural (co d)) where
  terms_natural : (low n : ℕ) → are_naturals (terms_from co low n) ≡ true
  unfolding terms_from
  terms_natural low zero = refl
  terms_natural low (suc n) = by (terms_natural (suc low) n) (co low) (all low).0 (all low).1 where
    of_number : (k : ℕ) → are_naturals (terms_from co (suc low) n) ≡ true → are_naturals (with_term low (pos k) (terms_from co (suc low) n)) ≡ true
    of_number zero r = r
    of_number (suc k) r = λ j. sign (pos (suc k)) (suc k, refl) j && r j

    by : are_naturals (terms_from co (suc low) n) ≡ true → (z : ℤ) (k : ℕ) → z ≡ pos k → are_naturals (with_term low z (terms_from co (suc low) n)) ≡ true
    by r z k e = (λ j. are_naturals (with_term low (e j) (terms_from co (suc low) n))) ∙ of_number k r

pub result_not_negative : (es : List Expr) (k : ℕ) → list_all is_not_negative es ≡ true → is_not_negative (result_at es k) ≡ true
result_not_negative [] k h = refl
result_not_negative (e ∷ es) zero h = (and_parts (is_not_negative e) _ h).0
result_not_negative (e ∷ es) (suc k) h = result_not_negative es k (and_parts (is_not_negative e) _ h).1

module _ (dims : ℕ) (inner : List Expr) (plain : list_all is_not_negative inner ≡ true) where
  at : (k : ℕ) → (int_le (pos 0) (result_at inner k).constant ≡ true) × (are_naturals (result_at inner k).terms ≡ true)
  at k = and_parts (int_le (pos 0) (result_at inner k).constant) _ (result_not_negative inner k plain)

  expr_not_negative : (e : Expr) → is_not_negative e ≡ true → is_not_negative (composed_expr dims inner e) ≡ true
  expr_not_negative e h =
      let parts = and_parts (int_le (pos 0) e.constant) (are_naturals e.terms) h in
      let constant = sum_natural e.constant (weighted_sum e.terms (λ k. (result_at inner k).constant)) (natural e.constant parts.0)
      (weighted e.terms (λ k. (result_at inner k).constant) parts.1 (λ k. natural (result_at inner k).constant (at k).0)) in
      let terms = terms_natural (composed_coefficient inner e) (λ d. weighted e.terms (λ k. coefficient (result_at inner k).terms d) parts.1 (λ k. coefficient_natural (result_at inner k).terms d (at k).1)) 0 dims in
      λ j. sign (composed_constant inner e) constant j && terms j

  pub composed_not_negative : (es : List Expr) → list_all is_not_negative es ≡ true → list_all is_not_negative (map (composed_expr dims inner) es) ≡ true
  composed_not_negative [] h = refl
  composed_not_negative (e ∷ es) h =
      let parts = and_parts (is_not_negative e) _ h in λ j. expr_not_negative e parts.0 j && composed_not_negative es parts.1 j

pub pulled_not_negative : (ds : List ℕ) (m : MapShape) → list_all is_not_negative m.results ≡ true → list_all is_not_negative (pulled ds m).results ≡ true
pulled_not_negative ds m h = go (count_up 0 _) where
  go : (ns : List ℕ) → list_all is_not_negative (map (λ d. result_at m.results (turned ds d)) ns) ≡ true
  go [] = refl
  go (n ∷ ns) = λ j. result_not_negative m.results (turned ds n) h j && go ns j
