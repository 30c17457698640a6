-- The axes of an operand read inside its extents, by the rules on maps, extents and windows.
use Rattle.std.proofs.Common.{◌≡◌, ℕ, zero, suc, ◌+◌, ◌-◌, ◌*◌, ◌<◌, ◌&&◌, ◌||◌, Bool, true, false, ℤ, pos, negsuc, ◌+ℤ◌, ◌-ℤ◌, ◌*ℤ◌, List, [], ◌∷◌, length, get_or, Option, Some, None, inl, inr, ⊎_elim, ◌⊎◌, refl, ap, sym, subst, ◌∙◌, arith, eqb-true, ltb-true}
use Rattle.std.specs.Prelude.{is_some, zip, int_le, nat_le, nat_lt}
use Rattle.std.specs.List.{list_all, filter_map, cons_option}
use Rattle.std.proofs.lemmas.Bool.{and_parts}
use Rattle.std.proofs.lemmas.Int.{ints}
use Rattle.affine_maps.specs.Map.{terms_fit, expr_fits}
use Rattle.affine_maps.specs.Permutation as affine
use Rattle.affine_maps.specs.Value.{weighted_sum}
use Rattle.affine_maps.specs.declared.map.Expr.{Expr}
use Rattle.mlir_base.specs.Numbers.{is_in_range, is_coefficient}
use Rattle.mlir_ir.specs.declared.tree.Extent.{Extent}
use Rattle.mlir_ir.specs.declared.tree.Extent.TheVariants.{Fixed, Any}
use Rattle.mlir_meaning.specs.Grids.{Each}
use Rattle.mlir_meaning.specs.Points.{to_nat, dimension_of}
use Rattle.mlir_verify.specs.Maps.{Axis, axis, is_not_negative}
use Rattle.mlir_verify.specs.Extents.{has_extent}
use Rattle.mlir_verify.specs.Windows.{greatest, greatest_value, is_below, stays_in}
use Rattle.point_laws.specs.Boxes.{NoPoints}
use Rattle.region_laws.specs.Operands.{ArePlain, IsPlain, ReadsBy, ReadsAxes, reach}
use Rattle.region_laws.proofs.Lone.{lone_parts}
use Rattle.verified_runs.specs.Typed.{IsSized}
use Rattle.tile_bridge.proofs.Axes.{dimension_same, axis_none, axis_some, one_sized, short}

-- NUMBERS AND DIMENSIONS OF A MAP
not_negative : (z : ℤ) → int_le (pos 0) z ≡ true → z ≡ pos (to_nat z)
not_negative (pos n) h = refl
not_negative (negsuc n) h = absurd cc

plain_terms : (dims : ℕ) (ts : List (ℕ × ℤ)) (low : ℕ) → list_all (λ (t : ℕ × ℤ). int_le (pos 0) t.1) ts ≡ true → terms_fit dims ts low ≡ true → ArePlain dims ts
plain_terms dims [] low h f = tt
plain_terms dims (t ∷ ts) low h f =
    let signs = and_parts (int_le (pos 0) t.1) _ h in
    let rest = and_parts (nat_le low t.0 && nat_lt t.0 dims && is_coefficient t.1) (terms_fit dims ts (t.0 + 1)) f in
    let front = and_parts (nat_le low t.0 && nat_lt t.0 dims) (is_coefficient t.1) rest.0 in
    ((not_negative t.1 signs.0, ltb-true t.0 dims (and_parts (nat_le low t.0) (nat_lt t.0 dims) front.0).1), plain_terms dims ts (t.0 + 1) signs.1 rest.1)

plain_expr : (dims : ℕ) (e : Expr) → is_not_negative e ≡ true → expr_fits dims e ≡ true → IsPlain dims e
plain_expr dims e h f =
    let signs = and_parts (int_le (pos 0) e.constant) _ h in
    (not_negative e.constant signs.0, plain_terms dims e.terms 0 signs.1 (and_parts (is_in_range e.constant) _ f).1)

pub plain_results : (dims : ℕ) (es : List Expr) → list_all is_not_negative es ≡ true → list_all (expr_fits dims) es ≡ true → Each (IsPlain dims) es
plain_results dims [] h f = tt
plain_results dims (e ∷ es) h f =
    let signs = and_parts (is_not_negative e) _ h in
    let fits = and_parts (expr_fits dims e) _ f in (plain_expr dims e signs.0 fits.0, plain_results dims es signs.1 fits.1)

-- GREATEST VALUES
-- a box has a point along each dimension, or no points
pub points_or_none : (box : List ℕ) → ((d : ℕ) → d < length box → 0 < get_or box d 0) ⊎ NoPoints box
points_or_none [] = inl (λ d l. absurd (omega arith))
points_or_none (zero ∷ box) = inr (0, omega arith, refl)
points_or_none (suc e ∷ box) = ⊎_elim
    (λ (f : (d : ℕ) → d < length box → 0 < get_or box d 0). inl (more f))
    (λ (n : NoPoints box). inr (suc n.0, omega (arith, n.1), n.2)) (points_or_none box)
  where
    more : ((d : ℕ) → d < length box → 0 < get_or box d 0) → (d : ℕ) → d < suc (length box) → 0 < get_or (suc e ∷ box) d 0
    more f zero l = omega arith
    more f (suc d) l = f d (omega arith)

module _ (box : List ℕ) (known : ℕ → Option Extent) (is : (d : ℕ) → d < length box → known d ≡ Some (Fixed (get_or box d 0))) where
  last_place : (n : ℕ) → 0 < n → pos n -ℤ pos 1 ≡ pos (n - 1)
  last_place n l = omega (arith, ints)

  module _ (some : (d : ℕ) → d < length box → 0 < get_or box d 0) where
    greatest_is : (d : ℕ) → d < length box → greatest (known d) ≡ pos (get_or box d 0 - 1)
    greatest_is d l = ap greatest (is d l) ∙ last_place (get_or box d 0) (some d l)

    greatest_sum : (ts : List (ℕ × ℤ)) → ArePlain (length box) ts → weighted_sum ts (λ d. greatest (known d)) ≡ pos (reach ts box)
    greatest_sum [] h = refl
    greatest_sum (t ∷ ts) h = λ j. (h.0.0 j *ℤ greatest_is t.0 h.0.1 j) +ℤ greatest_sum ts h.1 j

    pub greatest_at : (e : Expr) → IsPlain (length box) e → greatest_value known e ≡ pos (to_nat e.constant + reach e.terms box)
    greatest_at e h = λ j. h.0 j +ℤ greatest_sum e.terms h.1 j

  below_size : (n : ℕ) (x : Extent) (y : ℕ) → is_below (pos n) x ≡ true → IsSized (x ∷ []) (y ∷ []) → n < y
  below_size n (Fixed m) y h s = subst (λ k. n < k) (sym s.0) (ltb-true n m h)
  below_size n Any y h s = absurd cc

  window_inside : (e : Expr) (x : Extent) (y : ℕ) → IsPlain (length box) e → is_below (greatest_value known e) x ≡ true → IsSized (x ∷ []) (y ∷ []) →
      (to_nat e.constant + reach e.terms box < y) ⊎ NoPoints box
  window_inside e x y p h s =
      ⊎_elim (λ some. inl (below_size (to_nat e.constant + reach e.terms box) x y (sym (ap (λ z. is_below z x) (greatest_at some e p)) ∙ h) s)) (λ n. inr n) (points_or_none box)

  -- ONE AXIS
  same_size : (d : ℕ) → d < length box → (x : Extent) (y : ℕ) → has_extent (known d) x ≡ true → IsSized (x ∷ []) (y ∷ []) → y ≡ get_or box d 0
  same_size d l (Fixed m) y h s = s.0 ∙ sym (eqb-true (get_or box d 0) m (sym (ap (λ o. has_extent o (Fixed m)) (is d l)) ∙ h))
  same_size d l Any y h s = absurd (let z : false ≡ true = sym (ap (λ o. has_extent o Any) (is d l)) ∙ h in cc)

  -- the test on windows passes, or the operation has no points
  abbrev pub Stays : List Expr → List Extent → Type 0
  Stays es xs = NoPoints box ⊎ (list_all (stays_in known) (zip es xs) ≡ true)

  stays_first : (e : Expr) (x : Extent) (es : List Expr) (xs : List Extent) → Stays (e ∷ es) (x ∷ xs) → Stays es xs
  stays_first e x es xs (inl n) = inl n
  stays_first e x es xs (inr h) = inr (and_parts (stays_in known (e, x)) _ h).1

  abbrev Fits : Axis → Bool
  Fits a = has_extent (known a.0) a.1

  pub reads_axes : (es : List Expr) (xs : List Extent) (ys : List ℕ) → length es ≡ length xs → Each (IsPlain (length box)) es → IsSized xs ys →
      list_all Fits (filter_map axis (zip es xs)) ≡ true → Stays es xs → ReadsAxes box es ys
  reads_axes [] [] [] l p s h w = tt
  reads_axes (e ∷ es) (x ∷ xs) (y ∷ ys) l p s h w =
      let parts = one_sized x xs y ys s in
      by (affine.dimension_of e) refl parts.0 (λ k. reads_axes es xs ys (omega arith) p.1 parts.1 k (stays_first e x es xs w)) h w
    where
      alone : (k : ℕ) → dimension_of e ≡ Some k → k < length box
      alone k q = (subst (λ ts. ArePlain (length box) ts) (lone_parts e k q).1 p.0.1).0.1

      other : IsSized (x ∷ []) (y ∷ []) → affine.dimension_of e ≡ None → Stays (e ∷ es) (x ∷ xs) → (to_nat e.constant + reach e.terms box < y) ⊎ NoPoints box
      other t q (inl n) = inr n
      other t q (inr h) =
          window_inside e x y p.0 (sym (λ j. is_some (q j) || is_below (greatest_value known e) x) ∙ (and_parts (stays_in known (e, x)) _ h).0) t

      by : (o : Option ℕ) → affine.dimension_of e ≡ o → IsSized (x ∷ []) (y ∷ []) → (list_all Fits (filter_map axis (zip es xs)) ≡ true → ReadsAxes box es ys) →
          list_all Fits (filter_map axis (zip (e ∷ es) (x ∷ xs))) ≡ true → Stays (e ∷ es) (x ∷ xs) → ReadsAxes box (e ∷ es) (y ∷ ys)
      by None q t rest h w = (
        subst (λ (o : Option ℕ). ReadsBy box e y o) (sym (sym (dimension_same e) ∙ q)) (other t q w),
        rest (sym (λ j. list_all Fits (cons_option (axis_none e x q j) (filter_map axis (zip es xs)))) ∙ h),
      )
      by (Some k) q t rest h w =
          let at : dimension_of e ≡ Some k = sym (dimension_same e) ∙ q in
          let all : (has_extent (known k) x && list_all Fits (filter_map axis (zip es xs))) ≡ true = sym (λ j. list_all Fits (cons_option (axis_some e x k q j) (filter_map axis (zip es xs)))) ∙ h in
          let parts = and_parts (has_extent (known k) x) (list_all Fits (filter_map axis (zip es xs))) all in
          let inside : k < length box = alone k at in
          (subst (λ (o : Option ℕ). ReadsBy box e y o) (sym at) (inside, same_size k inside x y parts.0 t), rest parts.1)
  reads_axes [] [] (y ∷ ys) l p s h w = absurd s
  reads_axes [] (x ∷ xs) ys l p s h w = absurd (omega arith)
  reads_axes (e ∷ es) [] ys l p s h w = absurd (omega arith)
  reads_axes (e ∷ es) (x ∷ xs) [] l p s h w = absurd (short x xs s)
