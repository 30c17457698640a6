-- Maps in another order of their dimensions: their values, the dimensions that they select, and the box of a generic.
use Rattle.std.proofs.Common.{◌≡◌, ℕ, zero, suc, ◌<◌, ◌≤◌, ◌==◌, Bool, true, false, ℤ, pos, ◌+ℤ◌, ◌*ℤ◌, List, [], ◌∷◌, map, length, get_or, Option, Some, None, ⊎_elim, refl, ap, sym, ◌∙◌, arith, ltb-true}
use Rattle.std.specs.Prelude.{nat_lt, nat_le, option_map, unwrap_or, if◌then◌else◌}
use Rattle.std.specs.Option.{option_map_or}
use Rattle.std.proofs.lemmas.Bool.Decides.{eqb_tells, nat_tests}
use Rattle.std.proofs.lemmas.Int.{ints}
use Rattle.affine_maps.specs.Shape.{MapShape}
use Rattle.affine_maps.specs.Value.{coordinate, weighted_sum, value_at}
use Rattle.affine_maps.specs.declared.map.Expr.{Expr}
use Rattle.mlir_ir.specs.Count.{first}
use Rattle.mlir_meaning.specs.Points.{to_nat, map_point, is_one, is_zero, lone_dimension, dimension_of, selects}
use Rattle.mlir_meaning.specs.States.{grid_of, element}
use Rattle.mlir_meaning.specs.declared.values.Datum.{Datum}
use Rattle.mlir_meaning.specs.Structured.{axis_extent, operand_extent, generic_box, elements, output_map}
use Rattle.structured_steps.specs.Interchange.{turned, origin, old_point, new_point, insert_term, turned_terms, turned_expr, turned_map}
use Rattle.structured_steps.proofs.Listed.{tabled_at, tabled_length, lists_same}
use Rattle.structured_steps.proofs.Turning.{Order, old_at, past}

-- VALUES
inserted : (t : ℕ × ℤ) (ts : List (ℕ × ℤ)) (g : ℕ → ℤ) → weighted_sum (insert_term t ts) g ≡ (t.1 *ℤ g t.0) +ℤ weighted_sum ts g
inserted t [] g = refl
inserted t (u ∷ us) g = by_test (nat_le t.0 u.0) (inserted t us g) where
  by_test : (b : Bool) → weighted_sum (insert_term t us) g ≡ (t.1 *ℤ g t.0) +ℤ weighted_sum us g →
      weighted_sum (if b then t ∷ u ∷ us else u ∷ insert_term t us) g ≡ (t.1 *ℤ g t.0) +ℤ ((u.1 *ℤ g u.0) +ℤ weighted_sum us g)
  by_test true e = refl
  by_test false e = ap (λ z. (u.1 *ℤ g u.0) +ℤ z) e ∙ swapped (u.1 *ℤ g u.0) (t.1 *ℤ g t.0) (weighted_sum us g)
    where
      swapped : (a b c : ℤ) → a +ℤ (b +ℤ c) ≡ b +ℤ (a +ℤ c)
      swapped a b c = omega (arith, ints)

pub coordinate_is : (q : List ℕ) (k : ℕ) → coordinate (map pos q) k ≡ pos (get_or q k 0)
coordinate_is [] k = refl
coordinate_is (x ∷ q) zero = refl
coordinate_is (x ∷ q) (suc k) = coordinate_is q k

module _ (order : List ℕ) (n : ℕ) (o : Order order n) where
  module _ (q : List ℕ) (long : length q ≡ n) where
    coordinates : (d : ℕ) → coordinate (map pos q) (turned order d) ≡ coordinate (map pos (old_point order q)) d
    coordinates d = coordinate_is q (turned order d) ∙ sym (ap pos (old_at order n o q d long)) ∙ sym (coordinate_is (old_point order q) d)

    sums : (ts : List (ℕ × ℤ)) → weighted_sum (turned_terms order ts) (coordinate (map pos q)) ≡ weighted_sum ts (coordinate (map pos (old_point order q)))
    sums [] = refl
    sums (t ∷ ts) =
        inserted (turned order t.0, t.1) (turned_terms order ts) (coordinate (map pos q))
        ∙ (λ j. (t.1 *ℤ coordinates t.0 j) +ℤ sums ts j)

    results : (es : List Expr) → map to_nat (map (λ e. value_at e (map pos q)) (map (turned_expr order) es)) ≡ map to_nat (map (λ e. value_at e (map pos (old_point order q))) es)
    results [] = refl
    results (e ∷ es) = λ j. to_nat (e.constant +ℤ sums e.terms j) ∷ results es j

    -- a turned map at a new point is the map at the old one
    pub point_same : (m : MapShape) → map_point (turned_map order m) q ≡ map_point m (old_point order q)
    point_same m = results m.results

    pub elements_same : (ds : List Datum) (ms : List MapShape) → elements ds (map (turned_map order) ms) q ≡ elements ds ms (old_point order q)
    elements_same [] [] = refl
    elements_same [] (m ∷ ms) = refl
    elements_same (d ∷ ds) [] = refl
    elements_same (d ∷ ds) (m ∷ ms) = λ j. element d (point_same m j) ∷ elements_same ds ms j

  -- DIMENSIONS
  lone_more : (x t : ℕ × ℤ) (ts : List (ℕ × ℤ)) → lone_dimension (x ∷ insert_term t ts) ≡ None
  lone_more x t [] = refl
  lone_more x t (u ∷ us) = by_test (nat_le t.0 u.0) where
    by_test : (b : Bool) → lone_dimension (x ∷ (if b then t ∷ u ∷ us else u ∷ insert_term t us)) ≡ None
    by_test true = refl
    by_test false = refl

  lone_insert : (t u : ℕ × ℤ) (us : List (ℕ × ℤ)) → lone_dimension (insert_term t (u ∷ us)) ≡ None
  lone_insert t u us = by_test (nat_le t.0 u.0) where
    by_test : (b : Bool) → lone_dimension (if b then t ∷ u ∷ us else u ∷ insert_term t us) ≡ None
    by_test true = refl
    by_test false = lone_more u t us

  lone_both : (t u : ℕ × ℤ) (ts : List (ℕ × ℤ)) → lone_dimension (insert_term t (insert_term u ts)) ≡ None
  lone_both t u [] = lone_insert t u []
  lone_both t u (x ∷ ts) = by_test (nat_le u.0 x.0) where
    by_test : (b : Bool) → lone_dimension (insert_term t (if b then u ∷ x ∷ ts else x ∷ insert_term u ts)) ≡ None
    by_test true = lone_insert t u (x ∷ ts)
    by_test false = lone_insert t x (insert_term u ts)

  lone_turned : (ts : List (ℕ × ℤ)) → lone_dimension (turned_terms order ts) ≡ option_map (turned order) (lone_dimension ts)
  lone_turned [] = refl
  lone_turned (t ∷ []) = by_test (is_one t.1) where
    by_test : (b : Bool) → (if b then Some (turned order t.0) else None) ≡ option_map (turned order) (if b then Some t.0 else None)
    by_test true = refl
    by_test false = refl
  lone_turned (t ∷ u ∷ ts) = lone_both (turned order t.0, t.1) (turned order u.0, u.1) (turned_terms order ts)

  dimension_turned : (e : Expr) → dimension_of (turned_expr order e) ≡ option_map (turned order) (dimension_of e)
  dimension_turned e = by_test (is_zero e.constant) where
    by_test : (b : Bool) → (if b then lone_dimension (turned_terms order e.terms) else None) ≡ option_map (turned order) (if b then lone_dimension e.terms else None)
    by_test true = lone_turned e.terms
    by_test false = refl

  turned_test : (j k : ℕ) → k < n → (turned order j == k) ≡ (j == origin order k)
  turned_test j k l = by_test (nat_lt j n) refl where
    forth : j ≡ origin order k → turned order j ≡ k
    forth e = ap (turned order) e ∙ o.once k l

    decided : (turned order j ≡ k → j ≡ origin order k) → (turned order j == k) ≡ (j == origin order k)
    decided back = ⊎_elim
        (λ t. t.0 ∙ sym (⊎_elim (λ u. u.0) (λ u. absurd (u.1 (back t.1))) (eqb_tells j (origin order k))))
        (λ t. t.0 ∙ sym (⊎_elim (λ u. absurd (t.1 (forth u.1))) (λ u. u.0) (eqb_tells j (origin order k))))
        (eqb_tells (turned order j) k)

    by_test : (b : Bool) → nat_lt j n ≡ b → (turned order j == k) ≡ (j == origin order k)
    by_test true e = decided (λ q. sym (o.back j (ltb-true j n e)) ∙ ap (origin order) q)
    by_test false e =
        let m : n ≤ j = grind (arith, nat_tests) in
        decided (λ q. absurd (let p = past order n o j m in omega (arith, p, q, l)))

  selects_turned : (k : ℕ) (e : Expr) → k < n → selects k (turned_expr order e) ≡ selects (origin order k) e
  selects_turned k e l = ap (λ (d : Option ℕ). option_map_or (λ j. j == k) d false) (dimension_turned e) ∙ by_dimension (dimension_of e) where
    by_dimension : (d : Option ℕ) → option_map_or (λ j. j == k) (option_map (turned order) d) false ≡ option_map_or (λ j. j == origin order k) d false
    by_dimension None = refl
    by_dimension (Some j) = turned_test j k l

  axis_turned : (k : ℕ) (es : List Expr) (xs : List ℕ) → k < n → axis_extent k (map (turned_expr order) es) xs ≡ axis_extent (origin order k) es xs
  axis_turned k [] xs l = refl
  axis_turned k (e ∷ es) [] l = refl
  axis_turned k (e ∷ es) (x ∷ xs) l = λ j. if selects_turned k e l j then Some x else axis_turned k es xs l j

  operand_turned : (k : ℕ) (ms : List MapShape) (ds : List Datum) → k < n → operand_extent k (map (turned_map order) ms) ds ≡ operand_extent (origin order k) ms ds
  operand_turned k [] ds l = refl
  operand_turned k (m ∷ ms) [] l = refl
  operand_turned k (m ∷ ms) (d ∷ ds) l = λ j. first (axis_turned k m.results (grid_of d).extents l j) (operand_turned k ms ds l j)

  -- the box of the turned maps is the box in the new order
  pub box_turned : (ms : List MapShape) (ds : List Datum) → generic_box (map (turned_map order) ms) n ds ≡ new_point order (generic_box ms n ds)
  box_turned ms ds = lists_same 0 _ _ (tabled_length _ n ∙ sym (tabled_length _ (length order) ∙ o.long)) (λ k l.
      let m : k < n = (let e = tabled_length (λ d. unwrap_or (operand_extent d (map (turned_map order) ms) ds) 0) n in omega (arith, l, e)) in
      tabled_at (λ d. unwrap_or (operand_extent d (map (turned_map order) ms) ds) 0) n k 0 m
      ∙ ap (λ x. unwrap_or x 0) (operand_turned k ms ds m)
      ∙ sym (tabled_at (λ d. unwrap_or (operand_extent d ms ds) 0) n (origin order k) 0 (o.below k m))
      ∙ sym (tabled_at (λ i. get_or (generic_box ms n ds) (origin order i) 0) (length order) k 0 (omega (arith, m, o.long))))

  pub output_turned : (ms : List MapShape) (ds : List Datum) → output_map (map (turned_map order) ms) ds ≡ turned_map order (output_map ms ds)
  output_turned ms ds = at_map ms (length ds) where
    at_map : (ms : List MapShape) (k : ℕ) → get_or (map (turned_map order) ms) k (record { dims = 0; results = [] }) ≡ turned_map order (get_or ms k (record { dims = 0; results = [] }))
    at_map [] k = refl
    at_map (m ∷ ms) zero = refl
    at_map (m ∷ ms) (suc k) = at_map ms k
