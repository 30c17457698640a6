-- The box of the operation on the operands' tiles is the region's.
use Rattle.std.proofs.Common.{◌≡◌, ℕ, suc, ◌+◌, ◌-◌, ◌*◌, ◌<◌, ◌==◌, ℤ, pos, negsuc, Bool, true, false, List, [], ◌∷◌, ◌++◌, map, length, get_or, Option, Some, None, ⊎_elim, refl, ap, sym, ◌∙◌, subst, arith}
use Rattle.std.specs.Prelude.{if◌then◌else◌, ⊤, unwrap_or}
use Rattle.std.specs.Option.{option_map_or}
use Rattle.std.proofs.lemmas.Bool.{eqb-true, eq-eqb, or_parts, false≢true}
use Rattle.affine_maps.specs.Shape.{MapShape}
use Rattle.affine_maps.specs.Map.{dimension}
use Rattle.affine_maps.specs.Value.{value_at}
use Rattle.affine_maps.specs.declared.map.Expr.{Expr}
use Rattle.mlir_ir.specs.Count.{first}
use Rattle.mlir_meaning.specs.declared.values.Datum.{Datum}
use Rattle.mlir_meaning.specs.declared.values.Datum.TheVariants.{Number, Bits, Cells}
use Rattle.mlir_meaning.specs.Grids.{count_up, InBox, Each}
use Rattle.mlir_meaning.specs.Moves.{slice_of}
use Rattle.mlir_meaning.specs.Points.{to_nat, is_one, is_zero, lone_dimension, dimension_of, selects, select_map}
use Rattle.mlir_meaning.specs.States.{grid_of}
use Rattle.mlir_meaning.specs.Structured.{axis_extent, operand_extent, generic_box}
use Rattle.point_laws.specs.Tiles.{Cut}
use Rattle.region_laws.specs.Operands.{FitsBox, IsTyped, names_cut, reach, axis_inner, offsets_of, sizes_of, inner_map, inner_maps, is_sliced, operand_tile, operand_tiles, AxesHave, AllHave, IsThere, HasBox, IsPlain, ReadsBy, ReadsAxis, ReadsAxes, AxesFit, AllFit, IsRead, AreRead}
use Rattle.point_laws.specs.Boxes.{NoPoints, picks}
use Rattle.point_laws.proofs.Lists.{or_false}
use Rattle.point_laws.proofs.Tables.{fits_length, get_or-in}
use Rattle.region_laws.proofs.Operands.{weight, value_is, weight_le}
use Rattle.mlir_meaning.specs.declared.values.Grid.{Grid}

abbrev lone : ℕ → List (ℕ × ℤ) → Bool
lone d terms = option_map_or (λ k. k == d) (lone_dimension terms) false

-- one term, with the coefficient 1
record Lone (d : ℕ) (terms : List (ℕ × ℤ)) : Type 0 where
  coefficient : ℤ
  unit : to_nat coefficient ≡ 1
  is : terms ≡ (d, coefficient) ∷ []

lone_is : (d : ℕ) (terms : List (ℕ × ℤ)) → lone d terms ≡ true → Lone d terms
lone_is d [] h = absurd (false≢true h)
lone_is d (t ∷ []) h = by (is_one t.1) (one_of t.1) h
  where
    one_of : (z : ℤ) → is_one z ≡ true → to_nat z ≡ 1
    one_of (pos n) e = eqb-true n 1 e
    one_of (negsuc n) e = absurd (false≢true e)

    by : (b : Bool) → (b ≡ true → to_nat t.1 ≡ 1) → option_map_or (λ k. k == d) (if b then Some t.0 else None) false ≡ true → Lone d (t ∷ [])
    by true unit h = record { coefficient = t.1; unit = unit refl; is = λ j. (eqb-true t.0 d h j, t.1) ∷ [] }
    by false unit h = absurd (false≢true h)
lone_is d (t ∷ u ∷ terms) h = absurd (false≢true h)

without_test : (d : ℕ) (o : Option ℕ) (b : Bool) → option_map_or (λ k. k == d) (if b then o else None) false ≡ true → option_map_or (λ k. k == d) o false ≡ true
without_test d o true h = h
without_test d o false h = absurd (false≢true h)

abbrev Gives : ℕ → Option ℕ → Type 0
Gives n None = ⊤
Gives n (Some m) = m ≡ n

-- what stands in place of an extent has this size, and is there if it was
abbrev Kept : ℕ → Option ℕ → Option ℕ → Type 0
Kept n old new = Gives n new × (IsThere old → IsThere new)

kept_if : (n x y : ℕ) (b c : Bool) (old new : Option ℕ) → (b ≡ true → c ≡ true) → (c ≡ true → y ≡ n) → Kept n old new → Kept n (if b then Some x else old) (if c then Some y else new)
kept_if n x y true true old new h k rest = (k refl, λ _. tt)
kept_if n x y true false old new h k rest = absurd (false≢true (h refl))
kept_if n x y false true old new h k rest = (k refl, λ _. tt)
kept_if n x y false false old new h k rest = rest

extent_one : (n : ℕ) (old new rest rest' : Option ℕ) → Kept n old new → IsThere (first old rest) → (IsThere rest → rest' ≡ Some n) → first new rest' ≡ Some n
extent_one n old (Some m) rest rest' k there later = ap (λ x. Some x) k.0
extent_one n (Some x) None rest rest' k there later = absurd (k.1 tt)
extent_one n None None rest rest' k there later = later there

-- READING INSIDE: from what is known of each axis
axis_reads : (box : List ℕ) (e : Expr) (x : ℕ) → IsPlain (length box) e → ReadsAxis box e x → (p : List ℕ) → InBox box p → to_nat (value_at e (map pos p)) < x
axis_reads box e x plain h p b = by (dimension_of e) refl h
  where
    zero_of : (z : ℤ) → is_zero z ≡ true → to_nat z ≡ 0
    zero_of (pos n) e = eqb-true n 0 e
    zero_of (negsuc n) e = refl

    no_constant : (z : ℤ) (c : Bool) (o : Option ℕ) (d : ℕ) → (c ≡ true → to_nat z ≡ 0) → option_map_or (λ n. n == d) (if c then o else None) false ≡ true → to_nat z ≡ 0
    no_constant z true o d k h = k refl
    no_constant z false o d k h = absurd (false≢true h)

    by : (o : Option ℕ) → dimension_of e ≡ o → ReadsBy box e x o → to_nat (value_at e (map pos p)) < x
    by (Some d) same k =
        let selected : selects d e ≡ true = ap (λ o. option_map_or (λ n. n == d) o false) same ∙ eq-eqb d d refl in
        let one : Lone d e.terms = lone_is d e.terms (without_test d (lone_dimension e.terms) (is_zero e.constant) selected) in
        let zero : to_nat e.constant ≡ 0 = no_constant e.constant (is_zero e.constant) (lone_dimension e.terms) d (zero_of e.constant) selected in
        let weighs : weight e.terms p ≡ 1 * get_or p d 0 + 0 = ap (λ t. weight t p) one.is ∙ (λ j. one.unit j * get_or p d 0 + 0) in
        omega (arith, value_is (length box) e p plain, get_or-in box p d b k.0, k.1)
    by None same k =
        ⊎_elim (λ (l : to_nat e.constant + reach e.terms box < x). omega (arith, value_is (length box) e p plain, weight_le box e.terms p plain.1 b))
        (λ (l : NoPoints box). absurd (omega (arith, get_or-in box p l.0 b l.1, l.2))) k

pub reads_inside : (box : List ℕ) (es : List Expr) (xs : List ℕ) → Each (IsPlain (length box)) es → ReadsAxes box es xs → (p : List ℕ) → InBox box p → InBox xs (map to_nat (map (λ e. value_at e (map pos p)) es))
reads_inside box [] [] plain h p b = tt
reads_inside box (e ∷ es) (x ∷ xs) plain h p b = (axis_reads box e x plain.0 h.0 p b, reads_inside box es xs plain.1 h.1 p b)
reads_inside box [] (x ∷ xs) plain h p b = absurd h
reads_inside box (e ∷ es) [] plain h p b = absurd h

-- AND THE BOX
axis_agrees : (box : List ℕ) (e : Expr) (x d : ℕ) (o : Option ℕ) → ReadsBy box e x o → option_map_or (λ k. k == d) o false ≡ true → x ≡ get_or box d 0
axis_agrees box e x d None h s = absurd (false≢true s)
axis_agrees box e x d (Some k) h s = h.1 ∙ ap (λ n. get_or box n 0) (eqb-true k d s)

axes_agree : (box : List ℕ) (d : ℕ) (es : List Expr) (xs : List ℕ) → ReadsAxes box es xs → AxesHave d (get_or box d 0) es xs
axes_agree box d [] [] h = tt
axes_agree box d (e ∷ es) (x ∷ xs) h = (axis_agrees box e x d (dimension_of e) h.0, axes_agree box d es xs h.1)
axes_agree box d [] (x ∷ xs) h = absurd h
axes_agree box d (e ∷ es) [] h = absurd h

none_agree : (d n : ℕ) (es : List Expr) → AxesHave d n es []
none_agree d n [] = tt
none_agree d n (e ∷ es) = tt

selected_agree : (box : List ℕ) (ds : List ℕ) → Each (λ d. d < length box) ds → ReadsAxes box (map dimension ds) (picks ds box)
selected_agree box [] h = tt
selected_agree box (d ∷ ds) h = ((h.0, refl), selected_agree box ds h.1)

operand_agrees : (box : List ℕ) (d : ℕ) (m : MapShape) (x : Datum) → AxesFit box m x → AxesHave d (get_or box d 0) m.results (grid_of x).extents
operand_agrees box d m (Number n) h = none_agree d (get_or box d 0) m.results
operand_agrees box d m (Bits n) h = none_agree d (get_or box d 0) m.results
operand_agrees box d m (Cells width g) h = axes_agree box d m.results g.extents h.1

all_agree : (box : List ℕ) (d : ℕ) (ms : List MapShape) (xs : List Datum) (m : MapShape) (y : Datum) → AllFit box ms xs → AxesHave d (get_or box d 0) m.results (grid_of y).extents →
    AllHave d (get_or box d 0) (ms ++ m ∷ []) (xs ++ y ∷ [])
all_agree box d [] [] m y h k = (k, tt)
all_agree box d (n ∷ ms) (x ∷ xs) m y h k = (operand_agrees box d n x h.0, all_agree box d ms xs m y h.1 k)
all_agree box d [] (x ∷ xs) m y h k = absurd h
all_agree box d (n ∷ ms) [] m y h k = absurd h

operand_read : (box : List ℕ) (m : MapShape) (x : Datum) → AxesFit box m x → IsRead box m x
operand_read box m (Number n) h = tt
operand_read box m (Bits n) h = tt
operand_read box m (Cells width g) h = (h.0, λ p b. reads_inside box m.results g.extents h.0 h.1 p b)

all_read : (box : List ℕ) (ms : List MapShape) (xs : List Datum) → AllFit box ms xs → AreRead box ms xs
all_read box [] [] h = tt
all_read box (m ∷ ms) (x ∷ xs) h = (operand_read box m x h.0, all_read box ms xs h.1)
all_read box [] (x ∷ xs) h = absurd h
all_read box (m ∷ ms) [] h = absurd h

-- what the verifier knows of each axis is all that is asked of a generic
pub typed_by : (box : List ℕ) (ms : List MapShape) (ds : List ℕ) (ins : List Datum) (width : ℕ) (g : Grid) → FitsBox box ms ds ins width g → IsTyped box ms ds ins width g
typed_by box ms ds ins width g f = record {
  read = all_read box ms ins f.inputs;
  has_box = record {
    agrees = λ d l. all_agree box d ms ins (select_map (length box) ds) (Cells width g) f.inputs
        (subst (AxesHave d (get_or box d 0) (map dimension ds)) (sym f.extents) (axes_agree box d (map dimension ds) (picks ds box) (selected_agree box ds f.selects)));
    selected = f.alone;
  };
  selects = f.selects;
  extents = f.extents;
}

-- AS IT IS
self_axes : (d n : ℕ) (es : List Expr) (xs : List ℕ) → AxesHave d n es xs → Kept n (axis_extent d es xs) (axis_extent d es xs)
self_axes d n [] xs h = (tt, λ t. t)
self_axes d n (e ∷ es) [] h = (tt, λ t. t)
self_axes d n (e ∷ es) (x ∷ xs) h = kept_if n x x (selects d e) (selects d e) _ _ (λ c. c) h.0 (self_axes d n es xs h.1)

self_extent : (d n : ℕ) (ms : List MapShape) (xs : List Datum) → AllHave d n ms xs → IsThere (operand_extent d ms xs) → operand_extent d ms xs ≡ Some n
self_extent d n [] xs h there = absurd there
self_extent d n (m ∷ ms) [] h there = absurd there
self_extent d n (m ∷ ms) (x ∷ xs) h there =
    extent_one n _ _ _ _ (self_axes d n m.results (grid_of x).extents h.0) there (self_extent d n ms xs h.1)

all_get : (ns : List ℕ) (f : ℕ → ℕ) (a : ℕ) → ((d : ℕ) → d < length ns → f (a + d) ≡ get_or ns d 0) → map f (count_up a (length ns)) ≡ ns
all_get [] f a h = refl
all_get (n ∷ ns) f a h =
    let first : a + 0 ≡ a = omega arith in
    λ j. (ap f (sym first) ∙ h 0 (omega arith)) j ∷ all_get ns f (a + 1) (λ d l. (let e : (a + 1) + d ≡ a + suc d = omega arith in ap f e) ∙ h (suc d) (omega arith)) j

box_from : (ns : List ℕ) (maps : List MapShape) (operands : List Datum) → ((d : ℕ) → d < length ns → operand_extent d maps operands ≡ Some (get_or ns d 0)) → generic_box maps (length ns) operands ≡ ns
box_from ns maps operands h =
    all_get ns (λ d. unwrap_or (operand_extent d maps operands) 0) 0 (λ d l. let e : 0 + d ≡ d = omega arith in ap (λ k. unwrap_or (operand_extent k maps operands) 0) e ∙ ap (λ o. unwrap_or o 0) (h d l))

-- the box of an operation
pub box_is : (box : List ℕ) (maps : List MapShape) (operands : List Datum) → HasBox box maps operands → generic_box maps (length box) operands ≡ box
box_is box maps operands h = box_from box maps operands (λ d l. self_extent d (get_or box d 0) maps operands (h.agrees d l) (h.selected d l))

-- IN THE TILE
module _ (cut : ℕ → Bool) (box os ns : List ℕ) (c : Cut cut box os ns) (d : ℕ) (l : d < length box) where
  abbrev inner_with : Bool → Expr → Expr
  inner_with b e = record { constant = if b then pos 0 else e.constant; terms = e.terms }

  selects_inner : (e : Expr) (b : Bool) → selects d e ≡ true → selects d (inner_with b e) ≡ true
  selects_inner e true h = without_test d (lone_dimension e.terms) (is_zero e.constant) h
  selects_inner e false h = h

  size_selected : (e : Expr) (x : ℕ) → (selects d e ≡ true → x ≡ get_or box d 0) → (b : Bool) → names_cut cut e.terms ≡ b → selects d (inner_with b e) ≡ true →
      (if b then reach e.terms ns + 1 else x) ≡ get_or ns d 0
  size_selected e x agrees true named h =
      let one : Lone d e.terms = lone_is d e.terms h in
      let is_it : cut d ≡ true = sym (or_false (cut d)) ∙ ap (names_cut cut) (sym one.is) ∙ named in
      let some : 0 < get_or ns d 0 = c.filled d is_it l in
      ap (λ t. reach t ns + 1) one.is ∙ (λ j. (one.unit j * (get_or ns d 0 - 1) + 0) + 1) ∙ omega arith
  size_selected e x agrees false named h =
      let one : Lone d e.terms = lone_is d e.terms (without_test d (lone_dimension e.terms) (is_zero e.constant) h) in
      let not_it : cut d ≡ false = sym (or_false (cut d)) ∙ ap (names_cut cut) (sym one.is) ∙ named in
      agrees h ∙ sym (c.still d not_it).1

  abbrev size : ℕ
  size = get_or ns d 0

  sliced_axes : (es : List Expr) (xs : List ℕ) → AxesHave d (get_or box d 0) es xs → Kept size (axis_extent d es xs) (axis_extent d (map (axis_inner cut) es) (sizes_of cut ns es xs))
  sliced_axes [] xs h = (tt, λ t. t)
  sliced_axes (e ∷ es) [] h = (tt, λ t. t)
  sliced_axes (e ∷ es) (x ∷ xs) h =
      let b : Bool = names_cut cut e.terms in
      kept_if size x (if b then reach e.terms ns + 1 else x) (selects d e) (selects d (inner_with b e)) _ _ (selects_inner e b) (size_selected e x h.0 b refl) (sliced_axes es xs h.1)

  whole_axes : (es : List Expr) (xs : List ℕ) → is_sliced cut es ≡ false → AxesHave d (get_or box d 0) es xs → Kept size (axis_extent d es xs) (axis_extent d (map (axis_inner cut) es) xs)
  whole_axes [] xs s h = (tt, λ t. t)
  whole_axes (e ∷ es) [] s h = (tt, λ t. t)
  whole_axes (e ∷ es) (x ∷ xs) s h =
      let both : (names_cut cut e.terms ≡ false) × (is_sliced cut es ≡ false) = or_parts (names_cut cut e.terms) (is_sliced cut es) s in
      let b : Bool = names_cut cut e.terms in
      kept_if size x x (selects d e) (selects d (inner_with b e)) _ _ (selects_inner e b)
      (λ t. sym (λ j. if both.0 j then reach e.terms ns + 1 else x) ∙ size_selected e x h.0 b refl t) (whole_axes es xs both.1 h.1)

  no_axes : (es : List Expr) → Kept size (axis_extent d es []) (axis_extent d (map (axis_inner cut) es) [])
  no_axes [] = (tt, λ t. t)
  no_axes (e ∷ es) = (tt, λ t. t)

  operand_axes : (m : MapShape) (x : Datum) → AxesHave d (get_or box d 0) m.results (grid_of x).extents →
      Kept size (axis_extent d m.results (grid_of x).extents) (axis_extent d (inner_map cut m).results (grid_of (operand_tile cut os ns m x)).extents)
  unfolding slice_of
  operand_axes m (Number n) h = no_axes m.results
  operand_axes m (Bits n) h = no_axes m.results
  operand_axes m (Cells width g) h = by (is_sliced cut m.results) refl
    where
      by : (s : Bool) → is_sliced cut m.results ≡ s →
          Kept size (axis_extent d m.results g.extents)
          (axis_extent d (map (axis_inner cut) m.results) (grid_of (if s then Cells width (slice_of g (offsets_of cut os m.results) (sizes_of cut ns m.results g.extents)) else Cells width g)).extents)
      by true s = sliced_axes m.results g.extents h
      by false s = whole_axes m.results g.extents s h

  extent_is : (ms : List MapShape) (xs : List Datum) → AllHave d (get_or box d 0) ms xs → IsThere (operand_extent d ms xs) → operand_extent d (inner_maps cut ms) (operand_tiles cut os ns ms xs) ≡ Some size
  extent_is [] xs h there = absurd there
  extent_is (m ∷ ms) [] h there = absurd there
  extent_is (m ∷ ms) (x ∷ xs) h there = extent_one size _ _ _ _ (operand_axes m x h.0) there (extent_is ms xs h.1)

-- the box of the operation on the tiles
pub tile_box_is : (cut : ℕ → Bool) (box os ns : List ℕ) → Cut cut box os ns → (maps : List MapShape) (operands : List Datum) → HasBox box maps operands →
    generic_box (inner_maps cut maps) (length box) (operand_tiles cut os ns maps operands) ≡ ns
tile_box_is cut box os ns c maps operands h =
    let long : length ns ≡ length box = fits_length box os ns c.fits in
    ap (λ n. generic_box (inner_maps cut maps) n (operand_tiles cut os ns maps operands)) (sym long)
    ∙ box_from ns (inner_maps cut maps) (operand_tiles cut os ns maps operands)
    (λ d l. let m : d < length box = omega arith in extent_is cut box os ns c d m maps operands (h.agrees d m) (h.selected d m))
