-- Rules V5 to V8 at the fused operation: its maps fit, its axes agree, and it reads inside its operands.
use Rattle.std.proofs.Common.{◌≡◌, ℕ, ◌+◌, ◌<◌, ◌==◌, ◌&&◌, ◌||◌, Bool, true, false, pos, List, [], ◌∷◌, ◌++◌, map, length, get_or, Option, Some, None, refl, ap, sym, subst, ◌∙◌, arith, append_assoc, eqb-true}
use Rattle.std.specs.Prelude.{not, is_some, zip, option_map}
use Rattle.std.specs.List.{list_all, enumerate_from}
use Rattle.std.proofs.lemmas.Bool.{and_parts}
use Rattle.std.proofs.lemmas.List.{length-map}
use Rattle.std.proofs.lemmas.Option.{slice_get-map}
use Rattle.affine_maps.specs.Shape.{MapShape}
use Rattle.affine_maps.specs.Compose.{composed}
use Rattle.affine_maps.specs.Map.{map_fits}
use Rattle.affine_maps.specs.Value.{value_at}
use Rattle.affine_maps.specs.Permutation.{is_among}
use Rattle.mlir_ir.specs.Shape.{FuncShape}
use Rattle.mlir_ir.specs.declared.tree.Extent.{Extent}
use Rattle.mlir_ir.specs.declared.tree.Extent.TheVariants.{Fixed, Any}
use Rattle.mlir_ir.specs.declared.tree.Iter.{Iter}
use Rattle.mlir_ir.specs.declared.tree.Ty.{Ty}
use Rattle.mlir_ir.specs.declared.tree.Ty.TheVariants.{Scalar, Tensor, Vector}
use Rattle.mlir_ir.specs.declared.tree.ValueId.{ValueId}
use Rattle.mlir_meaning.specs.Grids.{InBox}
use Rattle.mlir_meaning.specs.Meaning.{values_in}
use Rattle.mlir_meaning.specs.Points.{to_nat, map_point}
use Rattle.mlir_meaning.specs.States.{State, grid_of, width_of}
use Rattle.mlir_meaning.specs.declared.values.Datum.{Datum}
use Rattle.mlir_meaning.specs.declared.values.Datum.TheVariants.{Number, Bits, Cells}
use Rattle.mlir_meaning.proofs.Through.{each_left}
use Rattle.mlir_verify.specs.Extents.{is_same_extent, are_same_extents, has_extents_of, has_extent, axes_agree, keeps_extents, breaks_extents}
use Rattle.mlir_verify.specs.Maps.{Axis, axes, extent_of, output_map, output_dimensions, is_iterator, fits_operand, fit_operands, cover_dimensions, match_output, breaks_maps, breaks_iterators}
use Rattle.mlir_verify.specs.Place.{Types, type_among}
use Rattle.mlir_verify.specs.Tensors.{extents_of, is_alike, result_type}
use Rattle.mlir_verify.specs.Windows.{has_no_points, operand_stays_in, inputs_stay_in, breaks_windows}
use Rattle.verified_runs.specs.Asks.{ReadsInside, ReadInside}
use Rattle.verified_runs.specs.Forms.{Structured, kind_of}
use Rattle.verified_runs.specs.Passes.{FuncPasses}
use Rattle.verified_runs.specs.Typed.{AreTyped, HoldsIn, IsSized}
use Rattle.point_laws.specs.Boxes.{picks}
use Rattle.point_laws.specs.Orders.{old_point}
use Rattle.point_laws.proofs.Tables.{box_length}
use Rattle.point_laws.proofs.Turning.{Order, order_of, new_length, old_inside}
use Rattle.region_laws.specs.Operands.{IsRead, AreRead}
use Rattle.region_laws.proofs.Stated.{typed_instance}
use Rattle.payload_forms.specs.Joined.{spliced}
use Rattle.fuse_laws.specs.Fused.{pulled}
use Rattle.fuse_laws.proofs.Fusing.{read_at, composed_is}
use Rattle.fuse_laws.proofs.OnePoint.{picks_new}
use Rattle.tile_bridge.specs.Instances.{HasExtents, instance_of, input_maps}
use Rattle.tile_bridge.proofs.Fitting.{Split, split, enumerated}
use Rattle.pair_laws.specs.Pairs.{fused_op}
use Rattle.pair_laws.specs.FuseAll.{Pair, fused_of, has_small_maps}
use Rattle.pair_laws.proofs.Agreeing.{agree_by, extent_by}
use Rattle.pair_laws.proofs.Boxes.{all_left, extent_left, last_map}
use Rattle.pair_laws.proofs.Found.{IsFound}
use Rattle.pair_laws.proofs.Pairing.{spliced-map, spliced-append}
use Rattle.pair_laws.proofs.Premises as premises
use Rattle.pair_laws.proofs.Premises.{later, t0, t2, p_op, c_op, p_types, c_types, result_typed, ds_are, m_map, fit_there, moved_maps, within, p_rules, p_order, typed_p, pi, ci, sized, known}
use Rattle.pair_laws.proofs.Scopes.{scope_after-append}
use Rattle.pair_laws.proofs.Windows.{read_inside, inside_spliced, windows_stay}
use Rattle.pair_laws.proofs.Zeros.{zero_state, zero_typed, HasFixed, types_fixed}

pub not_true : (b : Bool) → not b ≡ false → b ≡ true
not_true true e = refl
not_true false e = absurd cc

pub not_false : (b : Bool) → not b ≡ true → b ≡ false
not_false true e = absurd cc
not_false false e = refl

-- a result that is like a tensor holds one
record IsTensor (ty : Ty) (d : Datum) : Type 0 where
  cells : d ≡ Cells (width_of d) (grid_of d)
  sizes : IsSized (extents_of (Some ty)) (grid_of d).extents

tensor_is : (o : Option Ty) (ty : Ty) (d : Datum) → is_alike o (Some ty) ≡ true → HoldsIn (Some ty) d → IsTensor ty d
tensor_is (Some (Tensor xs v)) (Tensor ys w) (Cells b g) h k = record { cells = refl; sizes = k.1 }
tensor_is (Some (Tensor xs v)) (Tensor ys w) (Number n) h k = absurd k
tensor_is (Some (Tensor xs v)) (Tensor ys w) (Bits n) h k = absurd k
tensor_is (Some (Tensor xs v)) (Scalar e) d h k = absurd cc
tensor_is (Some (Tensor xs v)) (Vector ys w) d h k = absurd cc
tensor_is (Some (Scalar e)) ty d h k = absurd cc
tensor_is (Some (Vector xs v)) ty d h k = absurd cc
tensor_is None ty d h k = absurd cc

-- equal extents have equal sizes
same_sizes : (xs ys : List Extent) (ms ns : List ℕ) → are_same_extents xs ys ≡ true → IsSized xs ms → IsSized ys ns → ns ≡ ms
same_sizes xs ys ms ns h s r = let both = and_parts (length xs == length ys) _ h in go xs ys ms ns (eqb-true (length xs) (length ys) both.0) both.1 s r where
  go : (xs ys : List Extent) (ms ns : List ℕ) → length xs ≡ length ys → list_all (λ (x : Extent × Extent). is_same_extent x.0 x.1) (zip xs ys) ≡ true → IsSized xs ms → IsSized ys ns → ns ≡ ms
  go [] [] [] [] l h s r = refl
  go [] [] (m ∷ ms) ns l h s r = absurd s
  go [] [] [] (n ∷ ns) l h s r = absurd r
  go [] (y ∷ ys) ms ns l h s r = absurd (omega arith)
  go (x ∷ xs) [] ms ns l h s r = absurd (omega arith)
  go (Fixed a ∷ xs) (Fixed b ∷ ys) (m ∷ ms) (n ∷ ns) l h s r =
      let both = and_parts (a == b) _ h in λ j. (r.0 ∙ sym (eqb-true a b both.0) ∙ sym s.0) j ∷ go xs ys ms ns (omega arith) both.1 s.1 r.1 j
  go (Fixed a ∷ xs) (Fixed b ∷ ys) [] ns l h s r = absurd s
  go (Fixed a ∷ xs) (Fixed b ∷ ys) (m ∷ ms) [] l h s r = absurd r
  go (Fixed a ∷ xs) (Any ∷ ys) ms ns l h s r = absurd cc
  go (Any ∷ xs) (y ∷ ys) ms ns l h s r = absurd cc

module _ (f : FuncShape) (x : Pair) (passes : FuncPasses f) (i : IsFound f.params f.body x) (small : has_small_maps (fused_of x) ≡ true) where
  abbrev pub t : Types
  t = t2 f x passes i

  -- a typed state
  abbrev pub u : State
  u = zero_state t

  abbrev pub typed : AreTyped t u
  typed = zero_typed t

  abbrev pub ds : List ℕ
  ds = premises.D f x passes i

  abbrev pub new : Structured
  new = fused_op x.p x.c x.k x.m ds

  abbrev pub box : List ℕ
  box = (instance_of x.c u).box

  abbrev pub p_box : List ℕ
  p_box = (instance_of x.p u).box

  abbrev n : ℕ
  n = length p_box

  abbrev first : List Axis
  first = axes t x.c.maps x.c.ins x.c.outs

  abbrev second : List Axis
  second = axes t new.maps new.ins new.outs

  fit_tests : (not (breaks_maps t (kind_of new)) ≡ true) × (axes_agree (first ++ second) ≡ true)
  fit_tests =
      let parts = and_parts (not (breaks_maps t (kind_of new))) _ (fit_there f x passes i) in
      (parts.0, (and_parts (axes_agree (first ++ second)) _ parts.1).0)

  pub maps_pass : breaks_maps t (kind_of new) ≡ false
  maps_pass = not_false _ fit_tests.0

  operands_cover : (fit_operands t new.maps new.iterators new.ins new.outs ≡ true) × (cover_dimensions t new.maps new.iterators new.ins new.outs ≡ true)
  unfolding breaks_maps
  operands_cover = and_parts _ _ (not_true _ maps_pass)

  -- THE MAPS
  abbrev ms : List MapShape
  ms = spliced x.k (moved_maps f x passes i) (input_maps x.c)

  pub s : Split x.c.maps (length x.c.ins)
  s = split x.c.maps (length x.c.ins) (c_types f x passes i).counted

  pub maps_split : new.maps ≡ ms ++ s.last ∷ []
  maps_split =
      ap (spliced x.k (moved_maps f x passes i)) (s.is ∙ (λ j. sym s.taken j ++ s.last ∷ []))
      ∙ spliced-append x.k (moved_maps f x passes i) (input_maps x.c) (s.last ∷ []) (within f x passes i)

  pub maps_small : list_all map_fits new.maps ≡ true
  maps_small = (λ j. list_all map_fits (fused_op x.p x.c x.k x.m (ds_are f x passes i j)).maps) ∙ small

  pub iterators_pass : breaks_iterators (kind_of new) ≡ false
  unfolding breaks_iterators match_output
  iterators_pass =
      (λ j. not (list_all (λ (i : ℕ × Iter). is_iterator i.1 (is_among i.0 (output_dimensions (((λ i. output_map (maps_split i)) ∙ last_map ms s.last ∙ sym s.output) j)))) (enumerate_from 0 x.c.iterators)))
      ∙ (c_op f x passes i).iterators

  -- THE AXES
  extents_known : (d : ℕ) → d < length box → extent_of (first ++ second) d ≡ Some (Fixed (get_or box d 0))
  extents_known d l = extent_left first second d (Fixed (get_or box d 0)) (known f x passes i u typed d l)

  own_axes : list_all (λ (a : Axis). has_extent (extent_of (first ++ second) a.0) a.1) second ≡ true
  own_axes = (all_left (λ (a : Axis). has_extent (extent_of (first ++ second) a.0) a.1) first second fit_tests.1).1

  covered : (d : ℕ) → d < length x.c.iterators → is_some (extent_of second d) ≡ true
  unfolding cover_dimensions
  covered d l =
      let z : 0 + d ≡ d = omega arith in
      ap (λ k. is_some (extent_of second k)) (sym z) ∙ enumerated x.c.iterators 0 (λ (i : ℕ × Iter). is_some (extent_of second i.0)) operands_cover.1 d l

  rank : length x.c.iterators ≡ length box
  rank = (ci f x passes i u typed).rank

  extents_are : (d : ℕ) → d < length box → extent_of second d ≡ Some (Fixed (get_or box d 0))
  extents_are d l = extent_by (extent_of (first ++ second)) second d (get_or box d 0) own_axes (extents_known d l) (covered d (omega (arith, l, rank)))

  pub extents_pass : breaks_extents t f.results x.consumer.results (kind_of new) ≡ false
  unfolding breaks_extents keeps_extents
  extents_pass =
      let keeps = (and_parts _ _ (not_true _ (c_op f x passes i).extents)).1 in
      λ j. not (agree_by (extent_of (first ++ second)) second own_axes j && keeps j)

  -- WHAT IS READ
  abbrev value : Datum
  value = u.values i.result.0

  p_alike : is_alike (t0 f x passes i x.p.outs.0) (Some i.ty) ≡ true
  p_alike = subst (λ (rs : List (ValueId × Ty)). is_alike (t0 f x passes i x.p.outs.0) (result_type rs) ≡ true) i.defines_it (p_types f x passes i).gives

  tensor : IsTensor i.ty value
  tensor = tensor_is (t0 f x passes i x.p.outs.0) i.ty value p_alike (subst (λ o. HoldsIn o value) (result_typed f x passes i) (typed i.result.0))

  p_extents : has_extents_of (t0 f x passes i x.p.outs.0) (Some i.ty) ≡ true
  unfolding breaks_extents keeps_extents
  p_extents = subst (λ (rs : List (ValueId × Ty)). has_extents_of (t0 f x passes i x.p.outs.0) (result_type rs) ≡ true) i.defines_it (and_parts _ _ (not_true _ (p_op f x passes i).extents)).1

  value_extents : (grid_of value).extents ≡ picks ds p_box
  value_extents =
      same_sizes (extents_of (t0 f x passes i x.p.outs.0)) (extents_of (Some i.ty)) (grid_of (u.values x.p.outs.0)).extents (grid_of value).extents p_extents
      (p_rules f x passes i u (typed_p f x passes i u typed)).out_sized tensor.sizes
      ∙ (typed_instance (instance_of x.p u) (pi f x passes i u typed).fits).extents

  c_read : AreRead box (input_maps x.c) (values_in u.values x.c.ins)
  c_read = (typed_instance (instance_of x.c u) (ci f x passes i u typed).fits).read

  p_read : AreRead p_box (input_maps x.p) (values_in u.values x.p.ins)
  p_read = (typed_instance (instance_of x.p u) (pi f x passes i u typed).fits).read

  m_read : IsRead box x.m (Cells (width_of value) (grid_of value))
  m_read =
      subst (IsRead box x.m) tensor.cells
      (read_at box (input_maps x.c) (values_in u.values x.c.ins) x.k x.m value c_read i.map_there
      (slice_get-map (λ (v : ValueId). u.values v.0) x.c.ins x.k ∙ ap (option_map (λ (v : ValueId). u.values v.0)) i.operand))

  order : Order ds n
  order = order_of ds n (p_order f x passes i u (typed_p f x passes i u typed))

  m_inside : (q : List ℕ) → InBox box q → InBox (picks ds p_box) (map_point x.m q)
  m_inside q b = subst (λ es. InBox es (map_point x.m q)) value_extents (m_read.1 q b)

  m_long : (q : List ℕ) → InBox box q → length x.m.results ≡ n
  m_long q b =
      sym (length-map (map (λ e. value_at e (map pos q)) x.m.results) to_nat ∙ length-map x.m.results (λ e. value_at e (map pos q)))
      ∙ box_length (picks ds p_box) (map_point x.m q) (m_inside q b) ∙ ap length (picks_new ds p_box) ∙ new_length ds n order p_box

  old_there : (q : List ℕ) → InBox box q → InBox p_box (old_point ds (map_point x.m q))
  old_there q b = old_inside ds n order p_box refl (map_point x.m q) (subst (λ es. InBox es (map_point x.m q)) (picks_new ds p_box) (m_inside q b))

  moved_one : (m : MapShape) (d : Datum) → ReadsInside p_box m d → ReadsInside box (composed m (pulled ds x.m)) d
  moved_one m (Cells w g) h = λ q b.
      subst (λ e. InBox g.extents e) (sym (composed_is ds n order x.m (m_map f x passes i) box q m_read.0 (m_long q b) m)) (h (old_point ds (map_point x.m q)) (old_there q b))
  moved_one m (Number z) h = tt
  moved_one m (Bits z) h = tt

  moved_inside : (maps : List MapShape) (xs : List Datum) → ReadInside p_box maps xs → ReadInside box (map (λ i. composed i (pulled ds x.m)) maps) xs
  moved_inside [] [] h = tt
  moved_inside (m ∷ maps) (d ∷ xs) h = (moved_one m d h.0, moved_inside maps xs h.1)
  moved_inside [] (d ∷ xs) h = absurd h
  moved_inside (m ∷ maps) [] h = absurd h

  all_inside : ReadInside box ms (values_in u.values new.ins)
  all_inside =
      subst (ReadInside box ms) (sym (spliced-map (λ (v : ValueId). u.values v.0) x.k x.p.ins x.c.ins))
      (inside_spliced box x.k (moved_maps f x passes i) (values_in u.values x.p.ins) (input_maps x.c) (values_in u.values x.c.ins)
      (moved_inside (input_maps x.p) (values_in u.values x.p.ins) (read_inside p_box (input_maps x.p) (values_in u.values x.p.ins) p_read))
      (read_inside box (input_maps x.c) (values_in u.values x.c.ins) c_read))

  fixed : (v : ℕ) → HasFixed (t v)
  fixed v =
      subst (λ s. HasFixed (type_among s v)) (scope_after-append f.params x.before (x.producer ∷ x.mid))
      (types_fixed f (x.before ++ (x.producer ∷ x.mid)) (x.consumer ∷ x.after) v passes (i.is ∙ sym (append_assoc x.before (x.producer ∷ x.mid) (x.consumer ∷ x.after))))

  pub windows_pass : breaks_windows t (kind_of new) ≡ false
  unfolding breaks_windows inputs_stay_in fit_operands
  windows_pass =
      let stay = windows_stay t u (length x.c.iterators) box rank (extent_of second) extents_are x.c.iterators refl ms (s.last ∷ []) new.ins
      ((λ j. list_all (λ (x' : ValueId × MapShape). fits_operand (length x.c.iterators) x'.1 (t (x'.0).0)) (zip new.ins (sym maps_split j))) ∙ (and_parts _ _ operands_cover.0).0)
      ((λ j. list_all map_fits (sym maps_split j)) ∙ maps_small) all_inside (each_left (HasExtents t u) new.ins (new.outs ∷ []) (sized f x passes i u typed)) fixed in
      λ j. not (((λ k. has_no_points (extent_of second) x.c.iterators || list_all (λ (y : MapShape × ValueId). operand_stays_in (extent_of second) y.0 (t (y.1).0)) (zip (maps_split k) new.ins)) ∙ stay) j)
