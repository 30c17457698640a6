-- The axes of a generic whose dimensions are in another order, and the extents that they give its dimensions.
use Rattle.std.proofs.Common.{◌≡◌, ℕ, zero, suc, ◌+◌, ◌-◌, ◌<◌, ◌&&◌, Bool, true, false, List, [], ◌∷◌, ◌++◌, map, length, get_or, Option, Some, None, option_map, refl, ap, sym, subst, ◌∙◌, arith, zero-add}
use Rattle.std.specs.Prelude.{◌||◌, nat_le, slice_get, ℤ, ◌+ℤ◌, ◌*ℤ◌, if◌then◌else◌}
use Rattle.std.specs.List.{list_all, list_any, zip, flat_map, filter_map, cons_option, enumerate_from}
use Rattle.std.proofs.lemmas.Bool.{and_parts, and_from}
use Rattle.std.proofs.lemmas.Int.{ints}
use Rattle.std.proofs.lemmas.List.{length-map, map-append}
use Rattle.std.proofs.lemmas.Option.{slice_get-map}
use Rattle.affine_maps.specs.Shape.{MapShape}
use Rattle.affine_maps.specs.Map.{terms_fit, expr_fits}
use Rattle.affine_maps.specs.Permutation.{dimension_of}
use Rattle.affine_maps.specs.Value.{weighted_sum}
use Rattle.affine_maps.specs.declared.map.Expr.{Expr}
use Rattle.mlir_base.specs.Numbers.{is_in_range}
use Rattle.mlir_ir.specs.declared.tree.Extent.{Extent}
use Rattle.mlir_ir.specs.declared.tree.Iter.{Iter}
use Rattle.mlir_ir.specs.declared.tree.Iter.TheVariants.{Parallel}
use Rattle.mlir_ir.specs.declared.tree.Ty.{Ty}
use Rattle.mlir_ir.specs.declared.tree.ValueId.{ValueId}
use Rattle.mlir_meaning.specs.Grids.{Each}
use Rattle.mlir_meaning.proofs.Grids.{each-append}
use Rattle.mlir_verify.specs.Extents.{has_extent, axes_agree}
use Rattle.mlir_verify.specs.Maps.{Axis, axis, operand_axes, output_axes, output_map, axes, extent_of}
use Rattle.mlir_verify.specs.Place.{Types}
use Rattle.mlir_verify.specs.Tensors.{extents_of}
use Rattle.mlir_verify.specs.Windows.{Extents, greatest, is_below, stays_in, operand_stays_in, is_zero, has_no_points}
use Rattle.structured_steps.specs.Interchange.{turned, origin, insert_term, turned_terms, turned_expr, turned_map}
use Rattle.structured_steps.proofs.Turning.{Order}
use Rattle.step_results.proofs.TurnedMaps.{first_fits, dimension_small, turned_test, dimension_turned, alone_turned}

-- ENUMERATED LISTS
module _ {X : Type 0} (d : X) (P : ℕ × X → Bool) where
  pub each_from : (xs : List X) (a : ℕ) → list_all P (enumerate_from a xs) ≡ true → (k : ℕ) → k < length xs → P (a + k, get_or xs k d) ≡ true
  each_from [] a h k l = absurd (omega arith)
  each_from (x ∷ xs) a h zero l = let e : a + 0 ≡ a = omega arith in ap (λ m. P (m, x)) e ∙ (and_parts (P (a, x)) _ h).0
  each_from (x ∷ xs) a h (suc k) l =
      let e : a + suc k ≡ (a + 1) + k = omega arith in
      ap (λ m. P (m, get_or xs k d)) e ∙ each_from xs (a + 1) (and_parts (P (a, x)) _ h).1 k (omega arith)

  pub all_from : (xs : List X) (a : ℕ) → ((k : ℕ) → k < length xs → P (a + k, get_or xs k d) ≡ true) → list_all P (enumerate_from a xs) ≡ true
  all_from [] a h = refl
  all_from (x ∷ xs) a h =
      let e : a + 0 ≡ a = omega arith in
      and_from _ _ (sym (ap (λ m. P (m, x)) e) ∙ h 0 (omega arith))
      (all_from xs (a + 1) (λ k l. let q : a + suc k ≡ (a + 1) + k = omega arith in sym (ap (λ m. P (m, get_or xs k d)) q) ∙ h (suc k) (omega arith)))

  pub any_at : (xs : List X) (a : ℕ) → list_any P (enumerate_from a xs) ≡ true → (k : ℕ) × (k < length xs) × (P (a + k, get_or xs k d) ≡ true)
  any_at [] a h = absurd cc
  any_at (x ∷ xs) a h = by_test (P (a, x)) refl h (λ r. any_at xs (a + 1) r) where
    by_test : (b : Bool) → P (a, x) ≡ b → (b || list_any P (enumerate_from (a + 1) xs)) ≡ true →
        (list_any P (enumerate_from (a + 1) xs) ≡ true → (k : ℕ) × (k < length xs) × (P (a + 1 + k, get_or xs k d) ≡ true)) →
        (k : ℕ) × (k < length (x ∷ xs)) × (P (a + k, get_or (x ∷ xs) k d) ≡ true)
    by_test true q r rest = (0, omega arith, let e : a + 0 ≡ a = omega arith in ap (λ m. P (m, x)) e ∙ q)
    by_test false q r rest =
        let found = rest r in
        let l = found.1 in
        let e : a + suc found.0 ≡ a + 1 + found.0 = omega arith in
        (suc found.0, omega (arith, l), ap (λ m. P (m, get_or xs found.0 d)) e ∙ found.2)

  pub any_from : (xs : List X) (a k : ℕ) → k < length xs → P (a + k, get_or xs k d) ≡ true → list_any P (enumerate_from a xs) ≡ true
  any_from [] a k l h = absurd (omega arith)
  any_from (x ∷ xs) a zero l h = let e : a + 0 ≡ a = omega arith in ap (λ b. b || list_any P (enumerate_from (a + 1) xs)) (sym (ap (λ m. P (m, x)) e) ∙ h)
  any_from (x ∷ xs) a (suc k) l h =
      let e : a + suc k ≡ (a + 1) + k = omega arith in
      ap (λ b. P (a, x) || b) (any_from xs (a + 1) k (omega arith) (sym (ap (λ m. P (m, get_or xs k d)) e) ∙ h)) ∙ or_true (P (a, x))
    where
      or_true : (b : Bool) → (b || true) ≡ true
      or_true true = refl
      or_true false = refl

-- an axis by the dimension that selects it
axis_is : (e : Expr) (x : Extent) → axis (e, x) ≡ option_map (λ d. (d, x)) (dimension_of e)
axis_is e x = by_dimension (dimension_of e) where
  by_dimension : (o : Option ℕ) → (elim o as (λ _. Option Axis) [ None ↦ None | Some d ↦ Some (d, x) ]) ≡ option_map (λ d. (d, x)) o
  by_dimension None = refl
  by_dimension (Some d) = refl

-- THE AXES' DIMENSIONS ARE THE MAP'S
axes_below : (n : ℕ) (es : List Expr) (xs : List Extent) → list_all (expr_fits n) es ≡ true → Each (λ (a : Axis). a.0 < n) (filter_map axis (zip es xs))
axes_below n [] xs h = tt
axes_below n (e ∷ es) [] h = tt
axes_below n (e ∷ es) (x ∷ xs) h =
    let both = and_parts (expr_fits n e) (list_all (expr_fits n) es) h in
    subst (λ (q : Option Axis). Each (λ (a : Axis). a.0 < n) (cons_option q (filter_map axis (zip es xs)))) (sym (axis_is e x))
    (by_dimension (dimension_of e) (λ d q. dimension_small n e d both.0 q) (axes_below n es xs both.1))
  where
    by_dimension : (o : Option ℕ) → ((d : ℕ) → o ≡ Some d → d < n) → Each (λ (a : Axis). a.0 < n) (filter_map axis (zip es xs)) →
        Each (λ (a : Axis). a.0 < n) (cons_option (option_map (λ d. (d, x)) o) (filter_map axis (zip es xs)))
    by_dimension None small rest = rest
    by_dimension (Some d) small rest = (small d refl, rest)

module _ (n : ℕ) (t : Types) where
  inputs_below : (maps : List MapShape) (ins : List ValueId) → Each (λ (m : MapShape). list_all (expr_fits n) m.results ≡ true) maps →
      Each (λ (a : Axis). a.0 < n) (flat_map (λ (x : MapShape × ValueId). operand_axes x.0 (t (x.1).0)) (zip maps ins))
  inputs_below [] ins h = tt
  inputs_below (m ∷ maps) [] h = tt
  inputs_below (m ∷ maps) (v ∷ ins) h =
      each-append (λ (a : Axis). a.0 < n) (operand_axes m (t v.0)) (flat_map (λ (x : MapShape × ValueId). operand_axes x.0 (t (x.1).0)) (zip maps ins))
      (axes_below n m.results (extents_of (t v.0)) h.0) (inputs_below maps ins h.1)

  pub all_below : (maps : List MapShape) (ins : List ValueId) (outs : ValueId) (last : MapShape) → output_map maps ≡ Some last → Each (λ (m : MapShape). list_all (expr_fits n) m.results ≡ true) maps →
      list_all (expr_fits n) last.results ≡ true → Each (λ (a : Axis). a.0 < n) (axes t maps ins outs)
  all_below maps ins outs last q h k =
      each-append (λ (a : Axis). a.0 < n) (flat_map (λ (x : MapShape × ValueId). operand_axes x.0 (t (x.1).0)) (zip maps ins)) (output_axes (output_map maps) (t outs.0)) (inputs_below maps ins h)
      (subst (λ (x : Option MapShape). Each (λ (a : Axis). a.0 < n) (output_axes x (t outs.0))) (sym q) (axes_below n last.results (extents_of (t outs.0)) k))

-- IN ANOTHER ORDER
abbrev pub turn : List ℕ → Axis → Axis
turn order a = (turned order a.0, a.1)

-- the sum of inserted terms
inserted_sum : (t : ℕ × ℤ) (us : List (ℕ × ℤ)) (g : ℕ → ℤ) → weighted_sum (insert_term t us) g ≡ (t.1 *ℤ g t.0) +ℤ weighted_sum us g
inserted_sum t [] g = refl
inserted_sum t (u ∷ us) g = by_test (nat_le t.0 u.0) (inserted_sum t us g) where
  by_test : (b : Bool) → weighted_sum (insert_term t us) g ≡ (t.1 *ℤ g t.0) +ℤ weighted_sum us g →
      weighted_sum (if b then t ∷ u ∷ us else u ∷ insert_term t us) g ≡ (t.1 *ℤ g t.0) +ℤ ((u.1 *ℤ g u.0) +ℤ weighted_sum us g)
  by_test true e = refl
  by_test false e = ap (λ z. (u.1 *ℤ g u.0) +ℤ z) e ∙ swapped (u.1 *ℤ g u.0) (t.1 *ℤ g t.0) (weighted_sum us g)
    where
      swapped : (a b c : ℤ) → a +ℤ (b +ℤ c) ≡ b +ℤ (a +ℤ c)
      swapped a b c = omega (arith, ints)

module _ (order : List ℕ) (n : ℕ) (o : Order order n) where
  axis_turned : (e : Expr) (x : Extent) → axis (turned_expr order e, x) ≡ option_map (turn order) (axis (e, x))
  axis_turned e x =
      axis_is (turned_expr order e) x ∙ ap (option_map (λ d. (d, x))) (dimension_turned order n o e) ∙ by_dimension (dimension_of e) ∙ sym (ap (option_map (turn order)) (axis_is e x))
    where
      by_dimension : (d : Option ℕ) → option_map (λ d. (d, x)) (option_map (turned order) d) ≡ option_map (turn order) (option_map (λ d. (d, x)) d)
      by_dimension None = refl
      by_dimension (Some k) = refl

  results_turned : (es : List Expr) (xs : List Extent) → filter_map axis (zip (map (turned_expr order) es) xs) ≡ map (turn order) (filter_map axis (zip es xs))
  results_turned [] xs = refl
  results_turned (e ∷ es) [] = refl
  results_turned (e ∷ es) (x ∷ xs) = (λ j. cons_option (axis_turned e x j) (results_turned es xs j)) ∙ by_axis (axis (e, x)) where
    by_axis : (a : Option Axis) → cons_option (option_map (turn order) a) (map (turn order) (filter_map axis (zip es xs))) ≡ map (turn order) (cons_option a (filter_map axis (zip es xs)))
    by_axis None = refl
    by_axis (Some a) = refl

  inputs_turned : (t : Types) (maps : List MapShape) (ins : List ValueId) →
      flat_map (λ (x : MapShape × ValueId). operand_axes x.0 (t (x.1).0)) (zip (map (turned_map order) maps) ins) ≡ map (turn order) (flat_map (λ (x : MapShape × ValueId). operand_axes x.0 (t (x.1).0)) (zip maps ins))
  inputs_turned t [] ins = refl
  inputs_turned t (m ∷ maps) [] = refl
  inputs_turned t (m ∷ maps) (v ∷ ins) =
      (λ j. results_turned m.results (extents_of (t v.0)) j ++ inputs_turned t maps ins j)
      ∙ sym (map-append (turn order) (operand_axes m (t v.0)) (flat_map (λ (x : MapShape × ValueId). operand_axes x.0 (t (x.1).0)) (zip maps ins)))

  pub output_turned : (maps : List MapShape) → output_map (map (turned_map order) maps) ≡ option_map (turned_map order) (output_map maps)
  output_turned maps = (λ j. slice_get (map (turned_map order) maps) (length-map maps (turned_map order) j - 1)) ∙ slice_get-map (turned_map order) maps (length maps - 1)

  output_axes_turned : (m : Option MapShape) (ty : Option Ty) → output_axes (option_map (turned_map order) m) ty ≡ map (turn order) (output_axes m ty)
  output_axes_turned None ty = refl
  output_axes_turned (Some m) ty = results_turned m.results (extents_of ty)

  pub axes_turned : (t : Types) (maps : List MapShape) (ins : List ValueId) (outs : ValueId) → axes t (map (turned_map order) maps) ins outs ≡ map (turn order) (axes t maps ins outs)
  axes_turned t maps ins outs =
      (λ j. inputs_turned t maps ins j ++ (ap (λ m. output_axes m (t outs.0)) (output_turned maps) ∙ output_axes_turned (output_map maps) (t outs.0)) j)
      ∙ sym (map-append (turn order) (flat_map (λ (x : MapShape × ValueId). operand_axes x.0 (t (x.1).0)) (zip maps ins)) (output_axes (output_map maps) (t outs.0)))

  -- EXTENTS
  pub extent_turned : (all : List Axis) (k : ℕ) → k < n → extent_of (map (turn order) all) k ≡ extent_of all (origin order k)
  extent_turned [] k l = refl
  extent_turned (a ∷ all) k l = λ j. if turned_test order n o a.0 k l j then Some a.1 else extent_turned all k l j

  pub extent_back : (all : List Axis) (d : ℕ) → d < n → extent_of (map (turn order) all) (turned order d) ≡ extent_of all d
  extent_back all d l = extent_turned all (turned order d) (o.lands d l) ∙ ap (extent_of all) (o.back d l)

  agree_from : (all some : List Axis) → Each (λ (a : Axis). a.0 < n) some → list_all (λ (a : Axis). has_extent (extent_of all a.0) a.1) some ≡ true →
      list_all (λ (a : Axis). has_extent (extent_of (map (turn order) all) a.0) a.1) (map (turn order) some) ≡ true
  agree_from all [] small h = refl
  agree_from all (a ∷ some) small h =
      let both = and_parts (has_extent (extent_of all a.0) a.1) (list_all (λ (a : Axis). has_extent (extent_of all a.0) a.1) some) h in
      and_from _ _ (ap (λ x. has_extent x a.1) (extent_back all a.0 small.0) ∙ both.0) (agree_from all some small.1 both.1)

  pub agree_turned : (all : List Axis) → Each (λ (a : Axis). a.0 < n) all → axes_agree all ≡ true → axes_agree (map (turn order) all) ≡ true
  agree_turned all small h = agree_from all all small h

  -- WINDOWS
  module _ (old new : Extents) (same : (d : ℕ) → d < n → new (turned order d) ≡ old d) where
    sums_turned : (ts : List (ℕ × ℤ)) (low : ℕ) → terms_fit n ts low ≡ true → weighted_sum (turned_terms order ts) (λ d. greatest (new d)) ≡ weighted_sum ts (λ d. greatest (old d))
    sums_turned [] low h = refl
    sums_turned (t ∷ ts) low h =
        let parts = first_fits n t ts low h in
        inserted_sum (turned order t.0, t.1) (turned_terms order ts) (λ d. greatest (new d))
        ∙ (λ j. (t.1 *ℤ greatest (same t.0 parts.to j)) +ℤ sums_turned ts (t.0 + 1) parts.rest j)

    stays_turned : (e : Expr) (x : Extent) → expr_fits n e ≡ true → stays_in new (turned_expr order e, x) ≡ stays_in old (e, x)
    stays_turned e x h =
        let own = and_parts (is_in_range e.constant) (terms_fit n e.terms 0) h in
        λ j. alone_turned order n o e j || is_below (e.constant +ℤ sums_turned e.terms 0 own.1 j) x

    operand_turned : (es : List Expr) (xs : List Extent) → list_all (expr_fits n) es ≡ true → list_all (stays_in new) (zip (map (turned_expr order) es) xs) ≡ list_all (stays_in old) (zip es xs)
    operand_turned [] xs h = refl
    operand_turned (e ∷ es) [] h = refl
    operand_turned (e ∷ es) (x ∷ xs) h =
        let both = and_parts (expr_fits n e) (list_all (expr_fits n) es) h in
        λ j. stays_turned e x both.0 j && operand_turned es xs both.1 j

    pub inputs_stay : (t : Types) (maps : List MapShape) (ins : List ValueId) → Each (λ (m : MapShape). list_all (expr_fits n) m.results ≡ true) maps →
        list_all (λ (x : MapShape × ValueId). operand_stays_in new x.0 (t (x.1).0)) (zip (map (turned_map order) maps) ins) ≡ list_all (λ (x : MapShape × ValueId). operand_stays_in old x.0 (t (x.1).0)) (zip maps ins)
    inputs_stay t [] ins h = refl
    inputs_stay t (m ∷ maps) [] h = refl
    inputs_stay t (m ∷ maps) (v ∷ ins) h = λ j. operand_turned m.results (extents_of (t v.0)) h.0 j && inputs_stay t maps ins h.1 j

    -- the empty dimension at its new place
    pub no_points_turned : (its news : List Iter) → length its ≡ n → length news ≡ n → has_no_points old its ≡ true → has_no_points new news ≡ true
    no_points_turned its news l m h =
        let found = any_at Parallel (λ (i : ℕ × Iter). is_zero (old i.0)) its 0 h in
        let k = found.0 in
        let inside : k < n = let b = found.1 in omega (arith, b, l) in
        let lands = o.lands k inside in
        any_from Parallel (λ (i : ℕ × Iter). is_zero (new i.0)) news 0 (turned order k) (omega (arith, lands, m))
        (ap (λ d. is_zero (new d)) (zero-add (turned order k)) ∙ ap is_zero (same k inside) ∙ sym (ap (λ d. is_zero (old d)) (zero-add k)) ∙ found.2)
