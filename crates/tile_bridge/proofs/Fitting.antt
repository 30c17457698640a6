-- A generic at which no rule fails fits its box in each state that holds values of its operands' types.
use Rattle.std.proofs.Common.{◌≡◌, ℕ, zero, suc, ◌+◌, ◌-◌, ◌<◌, ◌==◌, ◌&&◌, ◌||◌, Bool, true, false, List, [], ◌∷◌, ◌++◌, map, length, take, get_or, Option, Some, None, inl, inr, ⊎_elim, ◌⊎◌, refl, ap, sym, subst, ◌∙◌, arith, eqb-true, append_assoc}
use Rattle.std.specs.Prelude.{is_some, zip, flat_map, slice_get, unwrap_or}
use Rattle.std.specs.List.{list_all, list_any, enumerate_from}
use Rattle.std.proofs.lemmas.Bool.{and_parts}
use Rattle.std.proofs.lemmas.List.{append-nil}
use Rattle.affine_maps.specs.Shape.{MapShape}
use Rattle.affine_maps.specs.Map.{IsMap, dimension}
use Rattle.affine_maps.specs.Permutation.{dimensions_of, is_projected_permutation, repeats}
use Rattle.affine_maps.specs.declared.map.Expr.{Expr}
use Rattle.affine_maps.proofs.Permuting.{to_dimensions}
use Rattle.mlir_ir.specs.declared.tree.Extent.{Extent}
use Rattle.mlir_ir.specs.declared.tree.Extent.TheVariants.{Fixed}
use Rattle.mlir_ir.specs.declared.tree.Iter.{Iter}
use Rattle.mlir_ir.specs.declared.tree.Iter.TheVariants.{Parallel}
use Rattle.mlir_ir.specs.declared.tree.Ty.{Ty}
use Rattle.mlir_ir.specs.declared.tree.ValueId.{ValueId}
use Rattle.mlir_meaning.specs.Grids.{Each}
use Rattle.mlir_meaning.specs.Meaning.{values_in}
use Rattle.mlir_meaning.specs.Points.{select_map}
use Rattle.mlir_meaning.specs.States.{State, grid_of}
use Rattle.mlir_meaning.specs.Structured.{generic_box, operand_extent}
use Rattle.mlir_meaning.specs.declared.values.Datum.{Datum}
use Rattle.mlir_meaning.specs.declared.values.Datum.TheVariants.{Number, Bits, Cells}
use Rattle.mlir_verify.specs.Place.{Types}
use Rattle.mlir_verify.specs.Tensors.{extents_of}
use Rattle.mlir_verify.specs.Maps.{Axis, operand_axes, output_axes, axes, extent_of, output_map, output_dimensions, on_output, fits_operand, is_not_negative}
use Rattle.mlir_verify.specs.Extents.{has_extent, axes_agree}
use Rattle.mlir_verify.specs.Windows.{operand_stays_in, is_zero, has_no_points, stays_in, is_below, greatest_value}
use Rattle.point_laws.specs.Boxes.{NoPoints, picks}
use Rattle.point_laws.proofs.Tables.{tabled_at, tabled_length}
use Rattle.region_laws.specs.Operands.{AxesFit, AllFit, IsPlain, IsThere, ReadsAxes, maps_of}
use Rattle.tile_bridge.proofs.Axes.{IsSize, axes_of, operands_sizes, known_is}
use Rattle.tile_bridge.proofs.Reading.{Stays, plain_results, reads_axes}
use Rattle.verified_runs.specs.Typed.{IsSized}
use Rattle.affine_maps.specs.Permutation as affine
use Rattle.tile_bridge.specs.Instances.{HasExtents}

-- THE LAST MAP
pub record Split (maps : List MapShape) (n : ℕ) : Type 0 where
  pub front : List MapShape
  pub last : MapShape
  pub is : maps ≡ front ++ last ∷ []
  pub counted : length front ≡ n
  pub taken : take n maps ≡ front
  pub output : output_map maps ≡ Some last

pub split : (maps : List MapShape) (n : ℕ) → length maps ≡ suc n → Split maps n
split [] n l = absurd (omega arith)
split (m ∷ []) zero l = record { front = []; last = m; is = refl; counted = refl; taken = refl; output = refl }
split (m ∷ []) (suc n) l = absurd (omega arith)
split (m ∷ k ∷ maps) zero l = absurd (omega arith)
split (m ∷ k ∷ maps) (suc n) l =
    let r : Split (k ∷ maps) n = split (k ∷ maps) n (omega arith) in
    let z : length (m ∷ k ∷ maps) - 1 ≡ suc (length (k ∷ maps) - 1) = omega arith in
    record {
      front = m ∷ r.front;
      last = r.last;
      is = λ j. m ∷ r.is j;
      counted = ap suc r.counted;
      taken = λ j. m ∷ r.taken j;
      output = ap (slice_get (m ∷ k ∷ maps)) z ∙ r.output;
    }

-- LISTS
all_parts : {A : Type 0} (f : A → Bool) (xs ys : List A) → list_all f (xs ++ ys) ≡ true → (list_all f xs ≡ true) × (list_all f ys ≡ true)
all_parts f [] ys h = (refl, h)
all_parts f (x ∷ xs) ys h =
    let parts = and_parts (f x) (list_all f (xs ++ ys)) h in
    let rest = all_parts f xs ys parts.1 in ((λ j. parts.0 j && rest.0 j), rest.1)

pub zip_front : {A B : Type 0} (xs : List A) (a : A) (bs : List B) → length xs ≡ length bs → zip (xs ++ a ∷ []) bs ≡ zip xs bs
zip_front [] a [] l = refl
zip_front [] a (b ∷ bs) l = absurd (omega arith)
zip_front (x ∷ xs) a [] l = absurd (omega arith)
zip_front (x ∷ xs) a (b ∷ bs) l = λ j. (x, b) ∷ zip_front xs a bs (omega arith) j

zip_behind : {A B : Type 0} (xs : List A) (bs : List B) (b : B) → length bs ≡ length xs → zip xs (bs ++ b ∷ []) ≡ zip xs bs
zip_behind [] bs b l = refl
zip_behind (x ∷ xs) [] b l = absurd (omega arith)
zip_behind (x ∷ xs) (y ∷ bs) b l = λ j. (x, y) ∷ zip_behind xs bs b (omega arith) j

pub enumerated : (its : List Iter) (a : ℕ) (P : ℕ × Iter → Bool) → list_all P (enumerate_from a its) ≡ true → (k : ℕ) → k < length its → P (a + k, get_or its k Parallel) ≡ true
enumerated [] a P h k l = absurd (omega arith)
enumerated (i ∷ its) a P h zero l = let e : a + 0 ≡ a = omega arith in ap (λ m. P (m, i)) e ∙ (and_parts (P (a, i)) _ h).0
enumerated (i ∷ its) a P h (suc k) l =
    let e : a + suc k ≡ (a + 1) + k = omega arith in
    ap (λ m. P (m, get_or its k Parallel)) e ∙ enumerated its (a + 1) P (and_parts (P (a, i)) _ h).1 k (omega arith)

pub any_enumerated : (its : List Iter) (a : ℕ) (P : ℕ → Bool) → list_any (λ (i : ℕ × Iter). P i.0) (enumerate_from a its) ≡ true → (k : ℕ) × (k < length its) × (P (a + k) ≡ true)
any_enumerated [] a P h = absurd cc
any_enumerated (i ∷ its) a P h = by (P a) refl (any_enumerated its (a + 1) P) h where
  by : (b : Bool) → P a ≡ b → (list_any (λ (i : ℕ × Iter). P i.0) (enumerate_from (a + 1) its) ≡ true → (k : ℕ) × (k < length its) × (P ((a + 1) + k) ≡ true)) →
      (b || list_any (λ (i : ℕ × Iter). P i.0) (enumerate_from (a + 1) its)) ≡ true → (k : ℕ) × (k < suc (length its)) × (P (a + k) ≡ true)
  by true q rest h = (0, omega arith, (let e : a + 0 ≡ a = omega arith in ap P e ∙ q))
  by false q rest h = let r = rest h in (suc r.0, omega (arith, r.1), (let e : a + suc r.0 ≡ (a + 1) + r.0 = omega arith in ap P e ∙ r.2))

pub values_front : (e : ℕ → Datum) (vs : List ValueId) (v : ValueId) → values_in e (vs ++ v ∷ []) ≡ values_in e vs ++ e v.0 ∷ []
values_front e [] v = refl
values_front e (w ∷ vs) v = λ j. e w.0 ∷ values_front e vs v j

-- ALL AXES IN ONE LIST
own_axes : (t : Types) (ms : List MapShape) (ins : List ValueId) (o : MapShape) (outs : ValueId) → length ms ≡ length ins →
    axes_of t ms ins ++ operand_axes o (t outs.0) ≡ axes_of t (ms ++ o ∷ []) (ins ++ outs ∷ [])
own_axes t [] [] o outs l = sym (append-nil (operand_axes o (t outs.0)))
own_axes t (m ∷ ms) (v ∷ ins) o outs l =
    append_assoc (operand_axes m (t v.0)) (axes_of t ms ins) (operand_axes o (t outs.0)) ∙ ap (λ l. operand_axes m (t v.0) ++ l) (own_axes t ms ins o outs (omega arith))
own_axes t [] (v ∷ ins) o outs l = absurd (omega arith)
own_axes t (m ∷ ms) [] o outs l = absurd (omega arith)

-- ONE OPERAND
module _ (t : Types) (u : State) (n : ℕ) (box : List ℕ) (rank : length box ≡ n) (known : ℕ → Option Extent) (is : (d : ℕ) → d < length box → known d ≡ Some (Fixed (get_or box d 0))) where
  abbrev Agrees : Axis → Bool
  Agrees a = has_extent (known a.0) a.1

  plain_in : (m : MapShape) → IsMap m → (m.dims == n) ≡ true → list_all is_not_negative m.results ≡ true → Each (IsPlain (length box)) m.results
  plain_in m fits dims signs =
      subst (λ k. Each (IsPlain k) m.results) (eqb-true m.dims n dims ∙ sym rank) (plain_results m.dims m.results signs fits)

  pub operand_reads : (m : MapShape) (ty : Option Ty) (es : List ℕ) → IsMap m → fits_operand n m ty ≡ true → IsSized (extents_of ty) es → list_all Agrees (operand_axes m ty) ≡ true →
      Stays box known is m.results (extents_of ty) → Each (IsPlain (length box)) m.results × ReadsAxes box m.results es
  operand_reads m ty es fits h s a w =
      let both = and_parts (m.dims == n && length m.results == length (extents_of ty)) (list_all is_not_negative m.results) h in
      let shape = and_parts (m.dims == n) (length m.results == length (extents_of ty)) both.0 in
      let plain = plain_in m fits shape.0 both.1 in
      (plain, reads_axes box known is m.results (extents_of ty) es (eqb-true (length m.results) (length (extents_of ty)) shape.1) plain s a w)

  axes_fit : (m : MapShape) (ty : Option Ty) (d : Datum) → IsMap m → fits_operand n m ty ≡ true → IsSized (extents_of ty) (grid_of d).extents → list_all Agrees (operand_axes m ty) ≡ true →
      Stays box known is m.results (extents_of ty) → AxesFit box m d
  axes_fit m ty (Cells w g) fits h s a r = operand_reads m ty g.extents fits h s a r
  axes_fit m ty (Number z) fits h s a r = tt
  axes_fit m ty (Bits b) fits h s a r = tt

  -- THE INPUTS
  abbrev WindowsStay : List MapShape → List ValueId → Type 0
  WindowsStay ms vs = NoPoints box ⊎ (list_all (λ (x : MapShape × ValueId). operand_stays_in known x.0 (t (x.1).0)) (zip ms vs) ≡ true)

  first_window : (m : MapShape) (v : ValueId) (ms : List MapShape) (vs : List ValueId) → WindowsStay (m ∷ ms) (v ∷ vs) → Stays box known is m.results (extents_of (t v.0)) × WindowsStay ms vs
  first_window m v ms vs (inl z) = (inl z, inl z)
  first_window m v ms vs (inr h) = let parts = and_parts (operand_stays_in known m (t v.0)) _ h in (inr parts.0, inr parts.1)

  pub all_fit : (ms : List MapShape) (vs : List ValueId) → length ms ≡ length vs → Each IsMap ms → list_all (λ (x : ValueId × MapShape). fits_operand n x.1 (t (x.0).0)) (zip vs ms) ≡ true →
      Each (HasExtents t u) vs → list_all Agrees (axes_of t ms vs) ≡ true → WindowsStay ms vs → AllFit box ms (values_in u.values vs)
  all_fit [] [] l maps h s a w = tt
  all_fit (m ∷ ms) (v ∷ vs) l maps h s a w =
      let fits = and_parts (fits_operand n m (t v.0)) _ h in
      let axes = all_parts Agrees (operand_axes m (t v.0)) (axes_of t ms vs) a in
      let windows = first_window m v ms vs w in
      (axes_fit m (t v.0) (u.values v.0) maps.0 fits.0 s.0 axes.0 windows.0, all_fit ms vs (omega arith) maps.1 fits.1 s.1 axes.1 windows.1)
  all_fit [] (v ∷ vs) l maps h s a w = absurd (omega arith)
  all_fit (m ∷ ms) [] l maps h s a w = absurd (omega arith)

-- THE OUTPUT
dimensions_back : (ds : List ℕ) → dimensions_of (map dimension ds) ≡ ds
dimensions_back [] = refl
dimensions_back (d ∷ ds) = λ j. d ∷ dimensions_back ds j

dims_below : (n : ℕ) (ds : List ℕ) → Each (IsPlain n) (map dimension ds) → Each (λ d. d < n) ds
dims_below n [] p = tt
dims_below n (d ∷ ds) p = (p.0.1.0.1, dims_below n ds p.1)

dims_extents : (box ds ys : List ℕ) → ReadsAxes box (map dimension ds) ys → ys ≡ picks ds box
dims_extents box [] [] r = refl
dims_extents box (d ∷ ds) (y ∷ ys) r = λ j. r.0.1 j ∷ dims_extents box ds ys r.1 j
dims_extents box [] (y ∷ ys) r = absurd r
dims_extents box (d ∷ ds) [] r = absurd r

is_there : (a : Option Extent) (o : Option ℕ) → is_some a ≡ true → IsSize a o → IsThere o
is_there (Some x) (Some y) h s = tt
is_there (Some x) None h s = absurd s
is_there None o h s = absurd cc

-- THE WHOLE
-- what the rules say of a generic, and what its operands have in the state
pub record Passes (t : Types) (u : State) (maps : List MapShape) (iterators : List Iter) (ins : List ValueId) (outs : ValueId) : Type 0 where
  pub counted : length maps ≡ suc (length ins)
  pub made : Each IsMap maps
  pub inputs : list_all (λ (x : ValueId × MapShape). fits_operand (length iterators) x.1 (t (x.0).0)) (zip ins maps) ≡ true
  pub output : on_output (output_map maps) (λ m. fits_operand (length iterators) m (t outs.0) && is_projected_permutation m) ≡ true
  pub covers : list_all (λ (i : ℕ × Iter). is_some (extent_of (axes t maps ins outs) i.0)) (enumerate_from 0 iterators) ≡ true
  pub agree : axes_agree (axes t maps ins outs) ≡ true
  pub windows : (has_no_points (extent_of (axes t maps ins outs)) iterators || list_all (λ (x : MapShape × ValueId). operand_stays_in (extent_of (axes t maps ins outs)) x.0 (t (x.1).0)) (zip maps ins)) ≡ true
  pub sized : Each (HasExtents t u) ins
  pub out_sized : HasExtents t u outs

each_front : {A : Type 0} (P : A → Type 0) (xs : List A) (x : A) → Each P (xs ++ x ∷ []) → Each P xs × P x
each_front P [] x h = (tt, h.0)
each_front P (y ∷ xs) x h = let r = each_front P xs x h.1 in ((h.0, r.0), r.1)

each_behind : {A : Type 0} (P : A → Type 0) (xs : List A) (x : A) → Each P xs → P x → Each P (xs ++ x ∷ [])
each_behind P [] x h k = (k, tt)
each_behind P (y ∷ xs) x h k = (h.0, each_behind P xs x h.1 k)

module _ (t : Types) (u : State) (maps : List MapShape) (iterators : List Iter) (ins : List ValueId) (outs : ValueId) (p : Passes t u maps iterators ins outs) where
  abbrev pub n : ℕ
  n = length iterators

  abbrev pub all : List Axis
  all = axes t maps ins outs

  abbrev pub operands : List Datum
  operands = values_in u.values ins ++ u.values outs.0 ∷ []

  abbrev pub box : List ℕ
  box = generic_box maps n operands

  rank : length box ≡ n
  rank = tabled_length (λ d. unwrap_or (operand_extent d maps operands) 0) n

  pub s : Split maps (length ins)
  s = split maps (length ins) p.counted

  one_list : all ≡ axes_of t maps (ins ++ outs ∷ [])
  one_list =
      (λ j. flat_map (λ (x : MapShape × ValueId). operand_axes x.0 (t (x.1).0)) (zip (s.is j) ins) ++ output_axes (s.output j) (t outs.0))
      ∙ (λ j. flat_map (λ (x : MapShape × ValueId). operand_axes x.0 (t (x.1).0)) (zip_front s.front s.last ins s.counted j) ++ operand_axes s.last (t outs.0))
      ∙ own_axes t s.front ins s.last outs s.counted ∙ (λ j. axes_of t (sym s.is j) (ins ++ outs ∷ []))

  sizes : (d : ℕ) → IsSize (extent_of all d) (operand_extent d maps operands)
  sizes d =
      subst (λ all'. IsSize (extent_of all' d) (operand_extent d maps operands)) (sym one_list)
      (subst (λ xs. IsSize (extent_of (axes_of t maps (ins ++ outs ∷ [])) d) (operand_extent d maps xs)) (values_front u.values ins outs)
      (operands_sizes t u d maps (ins ++ outs ∷ []) (each_behind (HasExtents t u) ins outs p.sized p.out_sized)))

  there : (d : ℕ) → d < n → is_some (extent_of all d) ≡ true
  there d l = let z : 0 + d ≡ d = omega arith in ap (λ k. is_some (extent_of all k)) (sym z) ∙ enumerated iterators 0 (λ (i : ℕ × Iter). is_some (extent_of all i.0)) p.covers d l

  pub known : (d : ℕ) → d < length box → extent_of all d ≡ Some (Fixed (get_or box d 0))
  known d l =
      let m : d < n = omega (arith, l, rank) in
      known_is all d (operand_extent d maps operands) p.agree (there d m) (sizes d)
      ∙ ap (λ k. Some (Fixed k)) (sym (tabled_at (λ d. unwrap_or (operand_extent d maps operands) 0) n d 0 m))

  -- the windows
  none_or_stay : NoPoints box ⊎ (list_all (λ (x : MapShape × ValueId). operand_stays_in (extent_of all) x.0 (t (x.1).0)) (zip maps ins) ≡ true)
  none_or_stay = by (has_no_points (extent_of all) iterators) refl p.windows where
    zero_at : (k : ℕ) → k < n → is_zero (extent_of all k) ≡ true → NoPoints box
    zero_at k l h =
        let m : k < length box = omega (arith, l, rank) in
        (k, m, eqb-true (get_or box k 0) 0 (sym (ap is_zero (known k m)) ∙ h))

    by : (b : Bool) → has_no_points (extent_of all) iterators ≡ b → (b || list_all (λ (x : MapShape × ValueId). operand_stays_in (extent_of all) x.0 (t (x.1).0)) (zip maps ins)) ≡ true →
        NoPoints box ⊎ (list_all (λ (x : MapShape × ValueId). operand_stays_in (extent_of all) x.0 (t (x.1).0)) (zip maps ins) ≡ true)
    by true q h =
        let r : (k : ℕ) × (k < n) × (is_zero (extent_of all (0 + k)) ≡ true) = any_enumerated iterators 0 (λ k. is_zero (extent_of all k)) q in
        let z : 0 + r.0 ≡ r.0 = omega arith in inl (zero_at r.0 r.1 (ap (λ k. is_zero (extent_of all k)) (sym z) ∙ r.2))
    by false q h = inr h

  agree_all : list_all (λ (a : Axis). has_extent (extent_of all a.0) a.1) (axes_of t s.front ins ++ operand_axes s.last (t outs.0)) ≡ true
  agree_all =
      ap (list_all (λ (a : Axis). has_extent (extent_of all a.0) a.1)) (own_axes t s.front ins s.last outs s.counted ∙ (λ j. axes_of t (sym s.is j) (ins ++ outs ∷ [])) ∙ sym one_list) ∙ p.agree

  pub inputs_fit : AllFit box s.front (values_in u.values ins)
  inputs_fit =
      let maps_are = each_front IsMap s.front s.last (subst (Each IsMap) s.is p.made) in
      all_fit t u n box rank (extent_of all) known s.front ins s.counted maps_are.0
      (sym (λ j. list_all (λ (x : ValueId × MapShape). fits_operand n x.1 (t (x.0).0)) (((λ i. zip ins (s.is i)) ∙ zip_behind ins s.front s.last s.counted) j)) ∙ p.inputs)
      p.sized (all_parts (λ (a : Axis). has_extent (extent_of all a.0) a.1) (axes_of t s.front ins) (operand_axes s.last (t outs.0)) agree_all).0
      (⊎_elim (λ z. inl z) (λ h. inr (sym (λ j. list_all (λ (x : MapShape × ValueId). operand_stays_in (extent_of all) x.0 (t (x.1).0)) (((λ i. zip (s.is i) ins) ∙ zip_front s.front s.last ins s.counted) j)) ∙ h))
      none_or_stay)

  -- the output's map selects its dimensions, each once
  out_tests : (fits_operand n s.last (t outs.0) ≡ true) × (is_projected_permutation s.last ≡ true)
  out_tests =
      and_parts (fits_operand n s.last (t outs.0)) (is_projected_permutation s.last)
      (sym (ap (λ o. on_output o (λ m. fits_operand n m (t outs.0) && is_projected_permutation m)) s.output) ∙ p.output)

  abbrev pub ds : List ℕ
  ds = dimensions_of s.last.results

  out_dims : (s.last.results ≡ map dimension ds) × (repeats ds ≡ false)
  out_dims =
      let r = to_dimensions s.last out_tests.1 in
      let e : ds ≡ r.0 = ap dimensions_of r.1 ∙ dimensions_back r.0 in
      (r.1 ∙ ap (map dimension) (sym e), ap repeats e ∙ r.2)

  pub out_once : repeats ds ≡ false
  out_once = out_dims.1

  pub out_ds : output_dimensions (output_map maps) ≡ ds
  out_ds = ap output_dimensions s.output

  pub out_map : s.last ≡ select_map (length box) ds
  out_map =
      let dims : s.last.dims ≡ n = eqb-true s.last.dims n (and_parts (s.last.dims == n) _ (and_parts _ _ out_tests.0).0).0 in
      let whole : s.last.dims ≡ length box = dims ∙ sym rank in λ j. record { dims = whole j; results = out_dims.0 j }

  pub maps_are : maps ≡ maps_of (take (length ins) maps) box (output_dimensions (output_map maps))
  maps_are = s.is ∙ (λ j. sym s.taken j ++ out_map j ∷ []) ∙ (λ j. take (length ins) maps ++ select_map (length box) (sym out_ds j) ∷ [])

  out_reads : Each (IsPlain (length box)) s.last.results × ReadsAxes box s.last.results (grid_of (u.values outs.0)).extents
  out_reads =
      let maps_are = each_front IsMap s.front s.last (subst (Each IsMap) s.is p.made) in
      operand_reads t u n box rank (extent_of all) known s.last (t outs.0) (grid_of (u.values outs.0)).extents maps_are.1 out_tests.0 p.out_sized
      (all_parts (λ (a : Axis). has_extent (extent_of all a.0) a.1) (axes_of t s.front ins) (operand_axes s.last (t outs.0)) agree_all).1
      (inr (all_stay s.last.results (extents_of (t outs.0)) out_tests.1))
    where
      all_stay : (es : List Expr) (xs : List Extent) → is_projected_permutation s.last ≡ true → list_all (stays_in (extent_of all)) (zip s.last.results xs) ≡ true
      all_stay es xs h = go s.last.results xs (and_parts (list_all (λ e. is_some (affine.dimension_of e)) s.last.results) _ h).0 where
        go : (es : List Expr) (xs : List Extent) → list_all (λ e. is_some (affine.dimension_of e)) es ≡ true → list_all (stays_in (extent_of all)) (zip es xs) ≡ true
        go [] xs h = refl
        go (e ∷ es) [] h = refl
        go (e ∷ es) (x ∷ xs) h =
            let parts = and_parts (is_some (affine.dimension_of e)) _ h in
            λ j. (parts.0 j || is_below (greatest_value (extent_of all) e) x) && go es xs parts.1 j

  pub out_below : Each (λ d. d < length box) ds
  out_below = dims_below (length box) ds (subst (Each (IsPlain (length box))) out_dims.0 out_reads.0)

  pub out_extents : (grid_of (u.values outs.0)).extents ≡ picks ds box
  out_extents = dims_extents box ds (grid_of (u.values outs.0)).extents (subst (λ es. ReadsAxes box es (grid_of (u.values outs.0)).extents) out_dims.0 out_reads.1)

  pub all_there : (d : ℕ) → d < length box → IsThere (operand_extent d maps operands)
  all_there d l = is_there (extent_of all d) (operand_extent d maps operands) (there d (omega (arith, l, rank))) (sizes d)

  pub box_rank : n ≡ length box
  box_rank = sym rank

  pub front_is : take (length ins) maps ≡ s.front
  front_is = s.taken
