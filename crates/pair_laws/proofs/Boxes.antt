-- The test on types says that the fused generic has the consumer's box.
use Rattle.std.proofs.Common.{◌≡◌, ℕ, zero, suc, ◌<◌, ◌==◌, ◌&&◌, Bool, true, false, List, [], ◌∷◌, ◌++◌, length, get_or, Option, Some, None, inl, inr, ⊎_elim, refl, ap, sym, ◌∙◌, arith, eqb-true, length-append, append_assoc, ◌+◌, ◌-◌}
use Rattle.std.proofs.lemmas.List.{append-nil}
use Rattle.std.specs.List.{enumerate_from, list_all, filter_map, cons_option}
use Rattle.std.specs.Prelude.{not, slice_get, flat_map, is_some, zip, if◌then◌else◌, ◌⊎◌}
use Rattle.std.specs.Option.{option_map_or}
use Rattle.std.proofs.lemmas.Bool.{and_parts}
use Rattle.std.proofs.lemmas.Option.{none-some}
use Rattle.affine_maps.specs.Shape.{MapShape}
use Rattle.affine_maps.specs.Permutation as affine
use Rattle.affine_maps.specs.declared.map.Expr.{Expr}
use Rattle.mlir_ir.specs.declared.tree.Extent.{Extent}
use Rattle.mlir_ir.specs.declared.tree.Extent.TheVariants.{Fixed, Any}
use Rattle.mlir_ir.specs.declared.tree.ValueId.{ValueId}
use Rattle.mlir_ir.specs.Count.{first}
use Rattle.mlir_meaning.specs.Grids.{Each}
use Rattle.mlir_meaning.specs.Points.{selects}
use Rattle.mlir_meaning.specs.States.{State, grid_of}
use Rattle.mlir_meaning.specs.Meaning.{values_in}
use Rattle.mlir_meaning.specs.Structured.{axis_extent, operand_extent}
use Rattle.mlir_verify.specs.Place.{Types}
use Rattle.mlir_verify.specs.Tensors.{extents_of}
use Rattle.mlir_ir.specs.declared.tree.Iter.{Iter}
use Rattle.mlir_verify.specs.Maps.{Axis, axis, operand_axes, output_map, output_axes, axes, extent_of, fit_operands, cover_dimensions, breaks_maps}
use Rattle.mlir_verify.specs.Extents.{has_extent, axes_agree}
use Rattle.verified_runs.specs.Forms.{kind_of}
use Rattle.tile_bridge.proofs.Axes.{one_sized, short, axis_none, axis_some, selects_is, axes_of}
use Rattle.pair_laws.specs.Laws.{FitsKeepsBox}
use Rattle.region_laws.proofs.Moves.{get_seam}
use Rattle.verified_runs.specs.Typed.{IsSized}
use Rattle.region_laws.specs.Operands.{IsThere, AxesHave, AllHave, HasBox}
use Rattle.tile_bridge.specs.Instances.{HasExtents}

-- OPERANDS
abbrev Fits : (ℕ → Option Extent) → Axis → Bool
Fits known a = has_extent (known a.0) a.1

module _ (known : ℕ → Option Extent) (d n : ℕ) (is : known d ≡ Some (Fixed n)) where
  same_number : (x : Extent) (y : ℕ) → has_extent (known d) x ≡ true → IsSized (x ∷ []) (y ∷ []) → y ≡ n
  same_number (Fixed m) y h k = k.0 ∙ sym (eqb-true n m (sym (ap (λ o. has_extent o (Fixed m)) is) ∙ h))
  same_number Any y h k = absurd (let z : false ≡ true = sym (ap (λ o. has_extent o Any) is) ∙ h in cc)

  axes_have : (es : List Expr) (xs : List Extent) (ys : List ℕ) → IsSized xs ys → list_all (Fits known) (filter_map axis (zip es xs)) ≡ true → AxesHave d n es ys
  axes_have [] xs ys s h = tt
  axes_have (e ∷ es) [] [] s h = tt
  axes_have (e ∷ es) (x ∷ xs) (y ∷ ys) s h =
      let parts = one_sized x xs y ys s in
      by (affine.dimension_of e) refl (λ k. axes_have es xs ys parts.1 k) parts.0 h
    where
      by : (o : Option ℕ) → affine.dimension_of e ≡ o → (list_all (Fits known) (filter_map axis (zip es xs)) ≡ true → AxesHave d n es ys) →
          IsSized (x ∷ []) (y ∷ []) → list_all (Fits known) (filter_map axis (zip (e ∷ es) (x ∷ xs))) ≡ true → AxesHave d n (e ∷ es) (y ∷ ys)
      by None q rest t h = (
        (λ sel. absurd (let z : false ≡ true = sym (selects_is d e ∙ ap (λ o. option_map_or (λ k. k == d) o false) q) ∙ sel in cc)),
        rest (sym (λ j. list_all (Fits known) (cons_option (axis_none e x q j) (filter_map axis (zip es xs)))) ∙ h),
      )
      by (Some k) q rest t h =
          let all : (has_extent (known k) x && list_all (Fits known) (filter_map axis (zip es xs))) ≡ true = sym (λ j. list_all (Fits known) (cons_option (axis_some e x k q j) (filter_map axis (zip es xs)))) ∙ h in
          let parts = and_parts (has_extent (known k) x) (list_all (Fits known) (filter_map axis (zip es xs))) all in
          ((λ sel. same_number x y (ap (λ i. has_extent (known i) x) (sym (eqb-true k d (sym (selects_is d e ∙ ap (λ o. option_map_or (λ k. k == d) o false) q) ∙ sel))) ∙ parts.0) t), rest parts.1)
  axes_have (e ∷ es) [] (y ∷ ys) s h = absurd s
  axes_have (e ∷ es) (x ∷ xs) [] s h = absurd (short x xs s)

pub all_left : (f : Axis → Bool) (xs ys : List Axis) → list_all f (xs ++ ys) ≡ true → (list_all f xs ≡ true) × (list_all f ys ≡ true)
all_left f [] ys h = (refl, h)
all_left f (x ∷ xs) ys h =
    let parts = and_parts (f x) (list_all f (xs ++ ys)) h in
    let rest = all_left f xs ys parts.1 in
    ((λ j. parts.0 j && rest.0 j), rest.1)

module _ (t : Types) (u : State) where
  abbrev IsSizedThere : ValueId → Type 0
  IsSizedThere = HasExtents t u

  all_have : (known : ℕ → Option Extent) (d n : ℕ) → known d ≡ Some (Fixed n) → (ms : List MapShape) (vs : List ValueId) → Each IsSizedThere vs →
      list_all (Fits known) (axes_of t ms vs) ≡ true → AllHave d n ms (values_in u.values vs)
  all_have known d n is [] vs s h = tt
  all_have known d n is (m ∷ ms) [] s h = tt
  all_have known d n is (m ∷ ms) (v ∷ vs) s h =
      let parts = all_left (Fits known) (operand_axes m (t v.0)) (axes_of t ms vs) h in
      (axes_have known d n is m.results (extents_of (t v.0)) (grid_of (u.values v.0)).extents s.0 parts.0, all_have known d n is ms vs s.1 parts.1)

  -- a dimension with an axis
  in_either : (xs ys : List Axis) (d : ℕ) → is_some (extent_of (xs ++ ys) d) ≡ true → (is_some (extent_of xs d) ≡ true) ⊎ (is_some (extent_of ys d) ≡ true)
  in_either [] ys d h = inr h
  in_either (x ∷ xs) ys d h = by (x.0 == d) (in_either xs ys d) h where
    by : (b : Bool) → (is_some (extent_of (xs ++ ys) d) ≡ true → (is_some (extent_of xs d) ≡ true) ⊎ (is_some (extent_of ys d) ≡ true)) →
        is_some (if b then Some x.1 else extent_of (xs ++ ys) d) ≡ true → (is_some (if b then Some x.1 else extent_of xs d) ≡ true) ⊎ (is_some (extent_of ys d) ≡ true)
    by true f h = inl refl
    by false f h = f h

  there_first : (a b : Option ℕ) → IsThere a ⊎ IsThere b → IsThere (first a b)
  there_first (Some x) b h = tt
  there_first None b (inl h) = absurd h
  there_first None b (inr h) = h

  axis_there : (d : ℕ) (es : List Expr) (xs : List Extent) (ys : List ℕ) → IsSized xs ys → is_some (extent_of (filter_map axis (zip es xs)) d) ≡ true → IsThere (axis_extent d es ys)
  axis_there d [] xs ys s h = absurd cc
  axis_there d (e ∷ es) [] ys s h = absurd cc
  axis_there d (e ∷ es) (x ∷ xs) (y ∷ ys) s h = by (affine.dimension_of e) refl (axis_there d es xs ys (one_sized x xs y ys s).1) h where
    chosen : (b : Bool) (r : Option ℕ) → (b ≡ false → IsThere r) → IsThere (if b then Some y else r)
    chosen true r f = tt
    chosen false r f = f refl

    by : (o : Option ℕ) → affine.dimension_of e ≡ o → (is_some (extent_of (filter_map axis (zip es xs)) d) ≡ true → IsThere (axis_extent d es ys)) →
        is_some (extent_of (filter_map axis (zip (e ∷ es) (x ∷ xs))) d) ≡ true → IsThere (axis_extent d (e ∷ es) (y ∷ ys))
    by None q rest h = chosen (selects d e) (axis_extent d es ys) (λ z. rest (sym (λ j. is_some (extent_of (cons_option (axis_none e x q j) (filter_map axis (zip es xs))) d)) ∙ h))
    by (Some k) q rest h =
        chosen (selects d e) (axis_extent d es ys) (λ z. rest (sym (skips z) ∙ sym (λ j. is_some (extent_of (cons_option (axis_some e x k q j) (filter_map axis (zip es xs))) d)) ∙ h)) where
          skips : selects d e ≡ false → is_some (if k == d then Some x else extent_of (filter_map axis (zip es xs)) d) ≡ is_some (extent_of (filter_map axis (zip es xs)) d)
          skips z = λ j. is_some (if (sym (selects_is d e ∙ ap (λ o. option_map_or (λ k. k == d) o false) q) ∙ z) j then Some x else extent_of (filter_map axis (zip es xs)) d)
  axis_there d (e ∷ es) (x ∷ xs) [] s h = absurd (short x xs s)

  some_there : (d : ℕ) (ms : List MapShape) (vs : List ValueId) → Each IsSizedThere vs → is_some (extent_of (axes_of t ms vs) d) ≡ true → IsThere (operand_extent d ms (values_in u.values vs))
  some_there d [] vs s h = absurd cc
  some_there d (m ∷ ms) [] s h = absurd cc
  some_there d (m ∷ ms) (v ∷ vs) s h =
      there_first (axis_extent d m.results (grid_of (u.values v.0)).extents) (operand_extent d ms (values_in u.values vs))
      (⊎_elim (λ l. inl (axis_there d m.results (extents_of (t v.0)) (grid_of (u.values v.0)).extents s.0 l)) (λ r. inr (some_there d ms vs s.1 r)) (in_either (operand_axes m (t v.0)) (axes_of t ms vs) d h))

  -- where the axes of the operands agree with extents that are known of the dimensions, the box is that of these
  pub has_box : (box : List ℕ) (known : ℕ → Option Extent) → ((d : ℕ) → d < length box → known d ≡ Some (Fixed (get_or box d 0))) → (ms : List MapShape) (vs : List ValueId) → Each IsSizedThere vs →
      list_all (Fits known) (axes_of t ms vs) ≡ true → ((d : ℕ) → d < length box → is_some (extent_of (axes_of t ms vs) d) ≡ true) → HasBox box ms (values_in u.values vs)
  has_box box known is ms vs s h cover = record {
    agrees = λ d l. all_have known d (get_or box d 0) (is d l) ms vs s h;
    selected = λ d l. some_there d ms vs s (cover d l);
  }

-- ALL AXES IN ONE LIST
pub last_map : (ms : List MapShape) (o : MapShape) → output_map (ms ++ o ∷ []) ≡ Some o
last_map ms o = ap (slice_get (ms ++ o ∷ [])) (let e = length-append ms (o ∷ []) in let z : length (ms ++ o ∷ []) - 1 ≡ length ms = omega (arith, e) in z) ∙ get_seam ms o [] (length ms) refl

own_axes : (t : Types) (ms : List MapShape) (ins : List ValueId) (o : MapShape) (outs : ValueId) → length ms ≡ length ins →
    flat_map (λ (x : MapShape × ValueId). operand_axes x.0 (t (x.1).0)) (zip (ms ++ o ∷ []) ins) ++ operand_axes o (t outs.0) ≡ axes_of t (ms ++ o ∷ []) (ins ++ outs ∷ [])
own_axes t [] [] o outs l = sym (append-nil (operand_axes o (t outs.0)))
own_axes t (m ∷ ms) (v ∷ ins) o outs l =
    append_assoc (operand_axes m (t v.0)) (flat_map (λ (x : MapShape × ValueId). operand_axes x.0 (t (x.1).0)) (zip (ms ++ o ∷ []) ins)) (operand_axes o (t outs.0))
    ∙ ap (λ l. operand_axes m (t v.0) ++ l) (own_axes t ms ins o outs (omega arith))
own_axes t [] (v ∷ ins) o outs l = absurd (omega arith)
own_axes t (m ∷ ms) [] o outs l = absurd (omega arith)

axes_is : (t : Types) (ms : List MapShape) (ins : List ValueId) (o : MapShape) (outs : ValueId) → length ms ≡ length ins → axes t (ms ++ o ∷ []) ins outs ≡ axes_of t (ms ++ o ∷ []) (ins ++ outs ∷ [])
axes_is t ms ins o outs l =
    (λ j. flat_map (λ (x : MapShape × ValueId). operand_axes x.0 (t (x.1).0)) (zip (ms ++ o ∷ []) ins) ++ output_axes (last_map ms o j) (t outs.0)) ∙ own_axes t ms ins o outs l

pub extent_left : (xs ys : List Axis) (d : ℕ) (x : Extent) → extent_of xs d ≡ Some x → extent_of (xs ++ ys) d ≡ Some x
extent_left [] ys d x h = absurd (none-some x h)
extent_left (a ∷ xs) ys d x h = by (a.0 == d) (extent_left xs ys d x) h where
  by : (b : Bool) → (extent_of xs d ≡ Some x → extent_of (xs ++ ys) d ≡ Some x) → (if b then Some a.1 else extent_of xs d) ≡ Some x → (if b then Some a.1 else extent_of (xs ++ ys) d) ≡ Some x
  by true f h = h
  by false f h = f h

enumerated : (its : List Iter) (a : ℕ) (P : ℕ × Iter → Bool) → list_all P (enumerate_from a its) ≡ true → (k : ℕ) → k < length its → (i : Iter) × (P (a + k, i) ≡ true)
enumerated [] a P h k l = absurd (omega arith)
enumerated (i ∷ its) a P h zero l = let e : a + 0 ≡ a = omega arith in (i, ap (λ m. P (m, i)) e ∙ (and_parts (P (a, i)) _ h).0)
enumerated (i ∷ its) a P h (suc k) l =
    let e : a + suc k ≡ (a + 1) + k = omega arith in
    let r = enumerated its (a + 1) P (and_parts (P (a, i)) _ h).1 k (omega arith) in
    (r.0, ap (λ m. P (m, r.0)) e ∙ r.1)

not_false : (b : Bool) → not b ≡ true → b ≡ false
not_false true e = absurd cc
not_false false e = refl

pub fits_keeps_box : FitsKeepsBox
unfolding breaks_maps cover_dimensions
fits_keeps_box t u c g ms o box maps counts dims sized known fit =
    let first = axes t c.maps c.ins c.outs in
    let second = axes t g.maps g.ins g.outs in
    let parts = and_parts (not (breaks_maps t (kind_of g))) _ fit in
    let agree = (and_parts (axes_agree (first ++ second)) _ parts.1).0 in
    let whole : (fit_operands t g.maps g.iterators g.ins g.outs && cover_dimensions t g.maps g.iterators g.ins g.outs) ≡ true = not_not _ parts.0 in
    let cover = (and_parts (fit_operands t g.maps g.iterators g.ins g.outs) (cover_dimensions t g.maps g.iterators g.ins g.outs) whole).1 in
    let one_list : second ≡ axes_of t g.maps (g.ins ++ g.outs ∷ []) = (λ j. axes t (maps j) g.ins g.outs) ∙ axes_is t ms g.ins o g.outs counts ∙ (λ j. axes_of t (sym maps j) (g.ins ++ g.outs ∷ [])) in
    has_box t u box (extent_of (first ++ second)) (λ d l. extent_left first second d (Fixed (get_or box d 0)) (known d l)) g.maps (g.ins ++ g.outs ∷ []) sized
    (ap (list_all (Fits (extent_of (first ++ second)))) (sym one_list) ∙ (all_left (Fits (extent_of (first ++ second))) first second agree).1)
    (λ d l. let r = enumerated g.iterators 0 (λ (i : ℕ × Iter). is_some (extent_of second i.0)) cover d (omega (arith, l, dims)) in
    let z : 0 + d ≡ d = omega arith in
    ap (λ as'. is_some (extent_of as' d)) (sym one_list) ∙ ap (λ k. is_some (extent_of second k)) (sym z) ∙ r.1)
  where
    not_not : (b : Bool) → not (not b) ≡ true → b ≡ true
    not_not true e = refl
    not_not false e = absurd cc
