-- Operands that are read inside at each point of a box pass the test on windows.
use Rattle.std.proofs.Common.{◌≡◌, ℕ, zero, suc, ◌+◌, ◌-◌, ◌*◌, ◌<◌, ◌==◌, ◌&&◌, ◌||◌, Bool, true, false, ℤ, pos, List, [], ◌∷◌, ◌++◌, map, length, get_or, Option, Some, ⊎_elim, refl, ap, sym, subst, ◌∙◌, arith, lt-ltb, eqb-true}
use Rattle.std.specs.Prelude.{is_some, zip}
use Rattle.std.specs.List.{list_all, list_any, enumerate_from}
use Rattle.std.proofs.lemmas.Bool.{and_parts}
use Rattle.affine_maps.specs.Shape.{MapShape}
use Rattle.affine_maps.specs.Map.{map_fits}
use Rattle.affine_maps.specs.Permutation as affine
use Rattle.affine_maps.specs.Value.{value_at}
use Rattle.affine_maps.specs.declared.map.Expr.{Expr}
use Rattle.mlir_ir.specs.declared.tree.Extent.{Extent}
use Rattle.mlir_ir.specs.declared.tree.Extent.TheVariants.{Fixed, Any}
use Rattle.mlir_ir.specs.declared.tree.Iter.{Iter}
use Rattle.mlir_ir.specs.declared.tree.Ty.{Ty}
use Rattle.mlir_ir.specs.declared.tree.ValueId.{ValueId}
use Rattle.mlir_meaning.specs.Grids.{Each, InBox}
use Rattle.mlir_meaning.specs.Meaning.{values_in}
use Rattle.mlir_meaning.specs.Points.{to_nat}
use Rattle.mlir_meaning.specs.States.{State, grid_of}
use Rattle.mlir_meaning.specs.declared.values.Datum.{Datum}
use Rattle.mlir_meaning.specs.declared.values.Datum.TheVariants.{Number, Bits, Cells}
use Rattle.mlir_verify.specs.Maps.{fits_operand, is_not_negative}
use Rattle.mlir_verify.specs.Place.{Types}
use Rattle.mlir_verify.specs.Tensors.{extents_of, is_fixed}
use Rattle.mlir_verify.specs.Windows.{greatest_value, is_below, stays_in, operand_stays_in, is_zero, has_no_points}
use Rattle.verified_runs.specs.Asks.{ReadsInside, ReadInside}
use Rattle.verified_runs.specs.Typed.{IsSized}
use Rattle.region_laws.specs.Operands.{IsPlain, reach, AreRead, IsRead}
use Rattle.region_laws.proofs.Operands.{weight, value_is}
use Rattle.tile_bridge.specs.Instances.{HasExtents}
use Rattle.tile_bridge.proofs.Axes.{one_sized, short}
use Rattle.tile_bridge.proofs.Reading.{plain_results, points_or_none, greatest_at}
use Rattle.payload_forms.specs.Joined.{spliced}
use Rattle.pair_laws.proofs.Zeros.{HasFixed}

-- WHAT IS READ INSIDE
read_one : (box : List ℕ) (m : MapShape) (x : Datum) → IsRead box m x → ReadsInside box m x
read_one box m (Cells w g) h = h.1
read_one box m (Number n) h = tt
read_one box m (Bits b) h = tt

pub read_inside : (box : List ℕ) (ms : List MapShape) (xs : List Datum) → AreRead box ms xs → ReadInside box ms xs
read_inside box [] [] h = tt
read_inside box (m ∷ ms) (x ∷ xs) h = (read_one box m x h.0, read_inside box ms xs h.1)
read_inside box [] (x ∷ xs) h = absurd h
read_inside box (m ∷ ms) [] h = absurd h

inside_append : (box : List ℕ) (ns : List MapShape) (ys : List Datum) (ms : List MapShape) (xs : List Datum) → ReadInside box ns ys → ReadInside box ms xs → ReadInside box (ns ++ ms) (ys ++ xs)
inside_append box [] [] ms xs h k = k
inside_append box (n ∷ ns) (y ∷ ys) ms xs h k = (h.0, inside_append box ns ys ms xs h.1 k)
inside_append box [] (y ∷ ys) ms xs h k = absurd h
inside_append box (n ∷ ns) [] ms xs h k = absurd h

pub inside_spliced : (box : List ℕ) (k : ℕ) (ns : List MapShape) (ys : List Datum) (ms : List MapShape) (xs : List Datum) → ReadInside box ns ys → ReadInside box ms xs →
    ReadInside box (spliced k ns ms) (spliced k ys xs)
inside_spliced box k ns ys [] [] h j = tt
inside_spliced box zero ns ys (m ∷ ms) (x ∷ xs) h j = inside_append box ns ys ms xs h j.1
inside_spliced box (suc k) ns ys (m ∷ ms) (x ∷ xs) h j = (j.0, inside_spliced box k ns ys ms xs h j.1)
inside_spliced box k ns ys [] (x ∷ xs) h j = absurd j
inside_spliced box k ns ys (m ∷ ms) [] h j = absurd j

-- THE GREATEST POINT
abbrev top : List ℕ → List ℕ
top = map (λ n. n - 1)

top_at : (box : List ℕ) (d : ℕ) → get_or (top box) d 0 ≡ get_or box d 0 - 1
top_at [] d = refl
top_at (n ∷ box) zero = refl
top_at (n ∷ box) (suc d) = top_at box d

top_inside : (box : List ℕ) → ((d : ℕ) → d < length box → 0 < get_or box d 0) → InBox box (top box)
top_inside [] h = tt
top_inside (n ∷ box) h = ((let l = h 0 (omega arith) in omega (arith, l)), top_inside box (λ d l. h (suc d) (omega (arith, l))))

top_weight : (box : List ℕ) (dims : ℕ) (ts : List (ℕ × ℤ)) → weight ts (top box) ≡ reach ts box
top_weight box dims [] = refl
top_weight box dims (t ∷ ts) = λ j. to_nat t.1 * top_at box t.0 j + top_weight box dims ts j

or_true : (b : Bool) → (b || true) ≡ true
or_true true = refl
or_true false = refl

module _ (t : Types) (u : State) (n : ℕ) (box : List ℕ) (rank : n ≡ length box) (known : ℕ → Option Extent) (is : (d : ℕ) → d < length box → known d ≡ Some (Fixed (get_or box d 0))) where
  module _ (some : (d : ℕ) → d < length box → 0 < get_or box d 0) where
    below : (e : Expr) (x : Extent) (y : ℕ) → IsPlain (length box) e → IsSized (x ∷ []) (y ∷ []) → is_fixed x ≡ true → to_nat (value_at e (map pos (top box))) < y → is_below (greatest_value known e) x ≡ true
    below e (Fixed m) y p s f l =
        (λ j. is_below (greatest_at box known is some e p j) (Fixed m))
        ∙ lt-ltb (to_nat e.constant + reach e.terms box) m (omega (arith, l, s.0, value_is (length box) e (top box) p, top_weight box (length box) e.terms))
    below e Any y p s f l = absurd cc

    axes_stay : (es : List Expr) (xs : List Extent) (ys : List ℕ) → Each (IsPlain (length box)) es → IsSized xs ys → list_all is_fixed xs ≡ true →
        InBox ys (map to_nat (map (λ e. value_at e (map pos (top box))) es)) → list_all (stays_in known) (zip es xs) ≡ true
    axes_stay [] xs ys p s f b = refl
    axes_stay (e ∷ es) [] ys p s f b = refl
    axes_stay (e ∷ es) (x ∷ xs) [] p s f b = absurd (short x xs s)
    axes_stay (e ∷ es) (x ∷ xs) (y ∷ ys) p s f b =
        let sizes = one_sized x xs y ys s in
        let fixed = and_parts (is_fixed x) (list_all is_fixed xs) f in
        let here = below e x y p.0 sizes.0 fixed.0 b.0 in
        λ j. ((λ i. is_some (affine.dimension_of e) || here i) ∙ or_true (is_some (affine.dimension_of e))) j && axes_stay es xs ys p.1 sizes.1 fixed.1 b.1 j

    operand_stays : (m : MapShape) (ty : Option Ty) (x : Datum) → Each (IsPlain (length box)) m.results → ReadsInside box m x → IsSized (extents_of ty) (grid_of x).extents → HasFixed ty →
        operand_stays_in known m ty ≡ true
    operand_stays m ty (Cells w g) p h s f = axes_stay m.results (extents_of ty) g.extents p s f (h (top box) (top_inside box some))
    operand_stays m ty (Number z) p h s f = no_axes m.results (extents_of ty) s where
      no_axes : (es : List Expr) (xs : List Extent) → IsSized xs [] → list_all (stays_in known) (zip es xs) ≡ true
      no_axes [] xs s = refl
      no_axes (e ∷ es) [] s = refl
      no_axes (e ∷ es) (x ∷ xs) s = absurd (short x xs s)
    operand_stays m ty (Bits z) p h s f = no_axes m.results (extents_of ty) s where
      no_axes : (es : List Expr) (xs : List Extent) → IsSized xs [] → list_all (stays_in known) (zip es xs) ≡ true
      no_axes [] xs s = refl
      no_axes (e ∷ es) [] s = refl
      no_axes (e ∷ es) (x ∷ xs) s = absurd (short x xs s)

    all_stay : (ms more : List MapShape) (vs : List ValueId) → list_all (λ (x : ValueId × MapShape). fits_operand n x.1 (t (x.0).0)) (zip vs (ms ++ more)) ≡ true → list_all map_fits (ms ++ more) ≡ true →
        ReadInside box ms (values_in u.values vs) → Each (HasExtents t u) vs → ((v : ℕ) → HasFixed (t v)) → list_all (λ (x : MapShape × ValueId). operand_stays_in known x.0 (t (x.1).0)) (zip (ms ++ more) vs) ≡ true
    all_stay [] [] [] a b h s f = refl
    all_stay [] (m ∷ more) [] a b h s f = refl
    all_stay [] more (v ∷ vs) a b h s f = absurd h
    all_stay (m ∷ ms) more [] a b h s f = refl
    all_stay (m ∷ ms) more (v ∷ vs) a b h s f =
        let tests = and_parts (fits_operand n m (t v.0)) _ a in
        let maps = and_parts (map_fits m) (list_all map_fits (ms ++ more)) b in
        let own = and_parts (m.dims == n && length m.results == length (extents_of (t v.0))) (list_all is_not_negative m.results) tests.0 in
        let dims = eqb-true m.dims n (and_parts (m.dims == n) _ own.0).0 in
        let plain : Each (IsPlain (length box)) m.results = subst (λ k. Each (IsPlain k) m.results) (dims ∙ rank) (plain_results m.dims m.results own.1 maps.0) in
        λ j. operand_stays m (t v.0) (u.values v.0) plain h.0 s.0 (f v.0) j && all_stay ms more vs tests.1 maps.1 h.1 s.1 f j

  any_at : (its : List Iter) (a : ℕ) (P : ℕ → Bool) (k : ℕ) → k < length its → P (a + k) ≡ true → list_any (λ (i : ℕ × Iter). P i.0) (enumerate_from a its) ≡ true
  any_at [] a P k l h = absurd (omega arith)
  any_at (i ∷ its) a P zero l h =
      let e : a + 0 ≡ a = omega arith in λ j. (ap P (sym e) ∙ h) j || list_any (λ (i : ℕ × Iter). P i.0) (enumerate_from (a + 1) its)
  any_at (i ∷ its) a P (suc k) l h =
      let e : a + suc k ≡ (a + 1) + k = omega arith in (λ j. P a || any_at its (a + 1) P k (omega arith) (ap P (sym e) ∙ h) j) ∙ or_true (P a)

  pub windows_stay : (its : List Iter) → length its ≡ n → (ms more : List MapShape) (vs : List ValueId) → list_all (λ (x : ValueId × MapShape). fits_operand n x.1 (t (x.0).0)) (zip vs (ms ++ more)) ≡ true →
      list_all map_fits (ms ++ more) ≡ true → ReadInside box ms (values_in u.values vs) → Each (HasExtents t u) vs → ((v : ℕ) → HasFixed (t v)) →
      (has_no_points known its || list_all (λ (x : MapShape × ValueId). operand_stays_in known x.0 (t (x.1).0)) (zip (ms ++ more) vs)) ≡ true
  windows_stay its long ms more vs a b h s f = ⊎_elim
      (λ some. (λ j. has_no_points known its || all_stay some ms more vs a b h s f j) ∙ or_true (has_no_points known its))
      (λ z. let q : is_zero (known (0 + z.0)) ≡ true = (let e : 0 + z.0 ≡ z.0 = omega arith in ap (λ k. is_zero (known k)) e ∙ ap is_zero (is z.0 z.1) ∙ (λ j. z.2 j == 0)) in
      λ j. any_at its 0 (λ d. is_zero (known d)) z.0 (omega (arith, z.1, long, rank)) q j || list_all (λ (x : MapShape × ValueId). operand_stays_in known x.0 (t (x.1).0)) (zip (ms ++ more) vs))
      (points_or_none box)
