-- A generic that passes reads inside its operands: from V5, V7 and V8, by the sizes of its axes.
use Rattle.std.proofs.Common.{◌≡◌, ℕ, zero, suc, ◌+◌, ◌-◌, ◌*◌, ◌<◌, ◌≤◌, ◌==◌, ◌||◌, ◌&&◌, ◌^◌, ℤ, pos, negsuc, ◌+ℤ◌, ◌*ℤ◌, ◌-ℤ◌, Bool, true, false, List, [], ◌∷◌, ◌++◌, map, length, get_or, append_assoc, Option, Some, None, refl, ap, sym, subst, ◌∙◌, arith, eqb-true, eq-eqb, ltb-true}
use Rattle.std.specs.Prelude.{nat_lt, nat_le, int_le, int_lt, is_some, slice_get, unwrap_or, if◌then◌else◌, ⊤}
use Rattle.std.specs.List.{list_all, list_any, zip, flat_map, filter_map, cons_option, enumerate_from}
use Rattle.std.specs.Option.{option_map_or}
use Rattle.std.specs.Ordering.{int_eq}
use Rattle.std.proofs.Math.Nat.{mul-le-mul_left}
use Rattle.std.proofs.lemmas.Bool.{and_parts, and_from}
use Rattle.std.proofs.lemmas.Bool.Decides.{Decides-int_eq}
use Rattle.std.proofs.lemmas.List.Folds.{list_all-append}
use Rattle.std.proofs.lemmas.Int.{ints}
use Rattle.std.proofs.lemmas.Option.{same_Some}
use Rattle.affine_maps.specs.Shape.{MapShape}
use Rattle.affine_maps.specs.Map.{terms_fit, expr_fits, map_fits}
use Rattle.affine_maps.specs.Permutation.{dimension_of_terms, dimension_of, is_projected_permutation}
use Rattle.affine_maps.specs.Value.{value_at, weighted_sum, coordinate}
use Rattle.affine_maps.specs.declared.map.Expr.{Expr}
use Rattle.mlir_base.specs.declared.types.ElemTy.{ElemTy}
use Rattle.mlir_base.specs.declared.types.ElemTy.TheVariants.{Int, Index}
use Rattle.mlir_ir.specs.Count.{first}
use Rattle.mlir_ir.specs.declared.tree.Extent.{Extent}
use Rattle.mlir_ir.specs.declared.tree.Extent.TheVariants.{Fixed, Any}
use Rattle.mlir_ir.specs.declared.tree.Iter.{Iter}
use Rattle.mlir_ir.specs.declared.tree.Ty.{Ty}
use Rattle.mlir_ir.specs.declared.tree.Ty.TheVariants.{Scalar, Tensor, Vector}
use Rattle.mlir_ir.specs.declared.tree.ValueId.{ValueId}
use Rattle.mlir_meaning.specs.Grids.{Each, InBox, count_up}
use Rattle.mlir_meaning.specs.Points.{to_nat, is_one, is_zero, lone_dimension, map_point, selects}
use Rattle.mlir_meaning.specs.Points as points
use Rattle.mlir_meaning.specs.States.{grid_of}
use Rattle.mlir_meaning.specs.Structured.{axis_extent, operand_extent, generic_box}
use Rattle.mlir_meaning.specs.Meaning.{values_in}
use Rattle.mlir_meaning.specs.declared.values.Datum.{Datum}
use Rattle.mlir_meaning.specs.declared.values.Datum.TheVariants.{Number, Bits, Cells}
use Rattle.mlir_verify.specs.Place.{Types}
use Rattle.mlir_verify.specs.Constants.{Constants}
use Rattle.mlir_verify.specs.Tensors.{extents_of, has_elements}
use Rattle.mlir_verify.specs.Types.{is_input}
use Rattle.mlir_verify.specs.Maps.{Axis, axis, operand_axes, output_axes, axes, extent_of, output_map, on_output, is_not_negative, fits_operand}
use Rattle.mlir_verify.specs.Extents.{is_same_extent, has_extent, axes_agree}
use Rattle.mlir_verify.specs.Windows.{Extents, greatest, greatest_value, is_below, stays_in, operand_stays_in, is_zero as is_zero_extent, has_no_points}
use Rattle.verified_runs.specs.Typed.{IsSized, AreCells, HoldsIn}
use Rattle.verified_runs.specs.Asks.{HasElements, HaveElements, ReadsInside, ReadInside, AxesHave, AllHave, HasBox}
use Rattle.verified_runs.proofs.Defined.{AllHold}
use Rattle.verified_runs.proofs.Selecting.{has_is, extent_append}

-- TYPES
input_has : (o : Option Ty) (constant : Bool) (e : ElemTy) (d : Datum) → is_input o constant e ≡ true → HoldsIn o d → HasElements e d
input_has (Some (Tensor es v)) constant (Int w) (Cells u g) i h = subst (λ n. (u ≡ n) × AreCells n g) (eqb-true v w i) (h.0, h.2)
input_has (Some (Tensor es v)) constant (Int w) (Number n) i h = absurd h
input_has (Some (Tensor es v)) constant (Int w) (Bits b) i h = absurd h
input_has (Some (Scalar (Int v))) constant (Int w) (Bits b) i h = subst (λ n. b < 2 ^ n) (eqb-true v w (and_parts (v == w) constant i).0) h
input_has (Some (Scalar (Int v))) constant (Int w) (Number n) i h = absurd h
input_has (Some (Scalar (Int v))) constant (Int w) (Cells u g) i h = absurd h
input_has (Some (Tensor es v)) constant Index d i h = absurd cc
input_has (Some (Scalar (Int v))) constant Index d i h = absurd cc
input_has (Some (Scalar Index)) constant e d i h = absurd cc
input_has (Some (Vector es v)) constant e d i h = absurd cc
input_has None constant e d i h = absurd cc

pub inputs_have : (t : Types) (constants : Constants) (values : ℕ → Datum) → AllHold t values → (ins : List ValueId) (es : List ElemTy) → length ins ≡ length es →
    list_all (λ (x : ValueId × ElemTy). is_input (t (x.0).0) (constants (x.0).0) x.1) (zip ins es) ≡ true → HaveElements es (values_in values ins)
inputs_have t constants values k [] [] l h = tt
inputs_have t constants values k [] (e ∷ es) l h = absurd (omega arith)
inputs_have t constants values k (v ∷ ins) [] l h = absurd (omega arith)
inputs_have t constants values k (v ∷ ins) (e ∷ es) l h =
    let both = and_parts (is_input (t v.0) (constants v.0) e) _ h in
    (input_has (t v.0) (constants v.0) e (values v.0) both.0 (k v.0), inputs_have t constants values k ins es (omega arith) both.1)

pub output_has : (o : Option Ty) (e : ElemTy) (d : Datum) → has_elements o e ≡ true → HoldsIn o d → HasElements e d
output_has (Some (Tensor es v)) (Int w) (Cells u g) i h = subst (λ n. (u ≡ n) × AreCells n g) (eqb-true v w i) (h.0, h.2)
output_has (Some (Tensor es v)) (Int w) (Number n) i h = absurd h
output_has (Some (Tensor es v)) (Int w) (Bits b) i h = absurd h
output_has (Some (Tensor es v)) Index d i h = absurd cc
output_has (Some (Scalar e)) x d i h = absurd cc
output_has (Some (Vector es v)) x d i h = absurd cc
output_has None x d i h = absurd cc

-- EXPRESSIONS WITHOUT NEGATIVE NUMBERS
abbrev ArePlain : ℕ → List (ℕ × ℤ) → Type 0
ArePlain dims = Each (λ t. (t.1 ≡ pos (to_nat t.1)) × (t.0 < dims))

abbrev IsPlain : ℕ → Expr → Type 0
IsPlain dims e = (e.constant ≡ pos (to_nat e.constant)) × ArePlain dims e.terms

natural : (z : ℤ) → int_le (pos 0) z ≡ true → z ≡ pos (to_nat z)
natural (pos n) h = refl
natural (negsuc n) h = absurd cc

plain_terms : (dims : ℕ) (terms : List (ℕ × ℤ)) (low : ℕ) → terms_fit dims terms low ≡ true → list_all (λ (t : ℕ × ℤ). int_le (pos 0) t.1) terms ≡ true → ArePlain dims terms
plain_terms dims [] low f h = tt
plain_terms dims (t ∷ terms) low f h =
    let fits = and_parts (nat_le low t.0 && nat_lt t.0 dims && _) _ f in
    let bounds = and_parts (nat_le low t.0 && nat_lt t.0 dims) _ fits.0 in
    let both = and_parts (int_le (pos 0) t.1) _ h in
    ((natural t.1 both.0, ltb-true t.0 dims (and_parts (nat_le low t.0) _ bounds.0).1), plain_terms dims terms (t.0 + 1) fits.1 both.1)

plain : (dims : ℕ) (e : Expr) → expr_fits dims e ≡ true → is_not_negative e ≡ true → IsPlain dims e
plain dims e f h =
    let both = and_parts (int_le (pos 0) e.constant) _ h in
    (natural e.constant both.0, plain_terms dims e.terms 0 (and_parts _ (terms_fit dims e.terms 0) f).1 both.1)

-- the value at a point, and what it is at most
abbrev weight : List (ℕ × ℤ) → (ℕ → ℕ) → ℕ
weight [] n = 0
weight (t ∷ terms) n = to_nat t.1 * n t.0 + weight terms n

coordinate_is : (p : List ℕ) (d : ℕ) → coordinate (map pos p) d ≡ pos (get_or p d 0)
coordinate_is [] d = refl
coordinate_is (i ∷ p) zero = refl
coordinate_is (i ∷ p) (suc d) = coordinate_is p d

sum_is : (dims : ℕ) (terms : List (ℕ × ℤ)) (f : ℕ → ℤ) (n : ℕ → ℕ) → ArePlain dims terms → ((d : ℕ) → d < dims → f d ≡ pos (n d)) → weighted_sum terms f ≡ pos (weight terms n)
sum_is dims [] f n h k = refl
sum_is dims (t ∷ terms) f n h k = λ j. (h.0.0 j *ℤ k t.0 h.0.1 j) +ℤ sum_is dims terms f n h.1 k j

value_is : (dims : ℕ) (e : Expr) (p : List ℕ) → IsPlain dims e → to_nat (value_at e (map pos p)) ≡ to_nat e.constant + weight e.terms (λ d. get_or p d 0)
value_is dims e p h = λ j. to_nat (h.0 j +ℤ sum_is dims e.terms (coordinate (map pos p)) (λ d. get_or p d 0) h.1 (λ d l. coordinate_is p d) j)

weight_le : (dims : ℕ) (terms : List (ℕ × ℤ)) (n m : ℕ → ℕ) → ArePlain dims terms → ((d : ℕ) → d < dims → n d ≤ m d) → weight terms n ≤ weight terms m
weight_le dims [] n m h k = omega arith
weight_le dims (t ∷ terms) n m h k =
    let l : to_nat t.1 * n t.0 ≤ to_nat t.1 * m t.0 = mul-le-mul_left (to_nat t.1) (k t.0 h.0.1) in
    let rest = weight_le dims terms n m h.1 k in
    omega (arith, l, rest)

-- ONE DIMENSION ALONE
same_test : (a b : Bool) → (a ≡ true → b ≡ true) → (b ≡ true → a ≡ true) → a ≡ b
same_test true b h k = sym (h refl)
same_test false true h k = k refl
same_test false false h k = refl

zero_tests : (z : ℤ) → is_zero z ≡ int_eq z (pos 0)
zero_tests (pos n) = same_test (n == 0) (int_eq (pos n) (pos 0)) (λ e. ap (λ k. int_eq (pos k) (pos 0)) (eqb-true n 0 e)) (λ e. let q = (Decides-int_eq (pos n) (pos 0)).0 e in eq-eqb n 0 (ap to_nat q))
zero_tests (negsuc n) = same_test false (int_eq (negsuc n) (pos 0)) (λ e. absurd cc) (λ e. absurd (let q = (Decides-int_eq (negsuc n) (pos 0)).0 e in cc))

one_tests : (z : ℤ) → is_one z ≡ int_eq z (pos 1)
one_tests (pos n) = same_test (n == 1) (int_eq (pos n) (pos 1)) (λ e. ap (λ k. int_eq (pos k) (pos 1)) (eqb-true n 1 e)) (λ e. let q = (Decides-int_eq (pos n) (pos 1)).0 e in eq-eqb n 1 (ap to_nat q))
one_tests (negsuc n) = same_test false (int_eq (negsuc n) (pos 1)) (λ e. absurd cc) (λ e. absurd (let q = (Decides-int_eq (negsuc n) (pos 1)).0 e in cc))

lone_same : (terms : List (ℕ × ℤ)) → lone_dimension terms ≡ dimension_of_terms terms
lone_same [] = refl
lone_same (t ∷ []) = λ j. if one_tests t.1 j then Some t.0 else None
lone_same (t ∷ u ∷ terms) = refl

dimension_same : (e : Expr) → points.dimension_of e ≡ dimension_of e
dimension_same e = λ j. if zero_tests e.constant j then lone_same e.terms j else None

-- its value is the coordinate
alone_value : (e : Expr) (d : ℕ) (n : ℕ → ℕ) → dimension_of e ≡ Some d → to_nat e.constant + weight e.terms n ≡ n d
alone_value e d n h = by_constant (int_eq e.constant (pos 0)) refl h where
  one_term : (terms : List (ℕ × ℤ)) → dimension_of_terms terms ≡ Some d → weight terms n ≡ n d
  one_term [] h = absurd cc
  one_term (t ∷ []) h = by_one (int_eq t.1 (pos 1)) refl h where
    by_one : (b : Bool) → int_eq t.1 (pos 1) ≡ b → (if b then Some t.0 else None) ≡ Some d → to_nat t.1 * n t.0 + 0 ≡ n d
    by_one true q h =
        let one = (Decides-int_eq t.1 (pos 1)).0 q in
        (λ j. to_nat (one j) * n (same_Some t.0 d h j) + 0) ∙ omega arith
    by_one false q h = absurd cc
  one_term (t ∷ u ∷ terms) h = absurd cc

  by_constant : (b : Bool) → int_eq e.constant (pos 0) ≡ b → (if b then dimension_of_terms e.terms else None) ≡ Some d → to_nat e.constant + weight e.terms n ≡ n d
  by_constant true q h =
      let none = (Decides-int_eq e.constant (pos 0)).0 q in
      let w = one_term e.terms h in
      (λ j. to_nat (none j) + w j) ∙ omega arith
  by_constant false q h = absurd cc

-- it is below the dimensions of its map
alone_below : (dims : ℕ) (e : Expr) (d : ℕ) → IsPlain dims e → dimension_of e ≡ Some d → d < dims
alone_below dims e d p h = by_constant (int_eq e.constant (pos 0)) h where
  one_term : (terms : List (ℕ × ℤ)) → ArePlain dims terms → dimension_of_terms terms ≡ Some d → d < dims
  one_term [] p h = absurd cc
  one_term (t ∷ []) p h = by_one (int_eq t.1 (pos 1)) h where
    by_one : (b : Bool) → (if b then Some t.0 else None) ≡ Some d → d < dims
    by_one true h = subst (λ k. k < dims) (same_Some t.0 d h) (p.0).1
    by_one false h = absurd cc
  one_term (t ∷ u ∷ terms) p h = absurd cc

  by_constant : (b : Bool) → (if b then dimension_of_terms e.terms else None) ≡ Some d → d < dims
  by_constant true h = one_term e.terms p.1 h
  by_constant false h = absurd cc

-- EXTENTS BY TYPES AND SIZES
-- the size is that of the extent, and there are both or none
abbrev Matches : Option Extent → Option ℕ → Type 0
Matches None None = ⊤
Matches (Some (Fixed n)) (Some m) = m ≡ n
Matches (Some Any) (Some m) = ⊤
Matches _ _ = ⊥

first_matches : (a b : Option Extent) (x y : Option ℕ) → Matches a x → Matches b y → Matches (first a b) (first x y)
first_matches None b None y h k = k
first_matches (Some (Fixed n)) b (Some m) y h k = h
first_matches (Some Any) b (Some m) y h k = tt
first_matches None b (Some m) y h k = absurd h
first_matches (Some (Fixed n)) b None y h k = absurd h
first_matches (Some Any) b None y h k = absurd h

axis_by : Option ℕ → Extent → Option Axis
axis_by o x = elim o as (λ _. Option Axis) [ None ↦ None | Some d ↦ Some (d, x) ]

-- along the axes of one operand
axes_match : (d : ℕ) (es : List Expr) (xs : List Extent) (ns : List ℕ) → IsSized xs ns → Matches (extent_of (filter_map axis (zip es xs)) d) (axis_extent d es ns)
unfolding axis_by
axes_match d [] xs ns h = tt
axes_match d (e ∷ es) [] [] h = tt
axes_match d (e ∷ es) [] (n ∷ ns) h = absurd h
axes_match d (e ∷ es) (Fixed m ∷ xs) [] h = absurd h
axes_match d (e ∷ es) (Any ∷ xs) [] h = absurd h
axes_match d (e ∷ es) (x ∷ xs) (n ∷ ns) h =
    subst (λ o. Matches (extent_of (filter_map axis (zip (e ∷ es) (x ∷ xs))) d) (if option_map_or (λ k. k == d) o false then Some n else axis_extent d es ns)) (sym (dimension_same e))
    (by_dimension (axes_match d es xs ns (size x h).1) (dimension_of e)) where
      size : (x : Extent) → IsSized (x ∷ xs) (n ∷ ns) → Matches (Some x) (Some n) × IsSized xs ns
      size (Fixed m) h = h
      size Any h = (tt, h)

      by_test : Matches (extent_of (filter_map axis (zip es xs)) d) (axis_extent d es ns) → (c : ℕ) (b : Bool) → Matches (if b then Some x else extent_of (filter_map axis (zip es xs)) d) (if b then Some n else axis_extent d es ns)
      by_test rest c true = (size x h).0
      by_test rest c false = rest

      by_dimension : Matches (extent_of (filter_map axis (zip es xs)) d) (axis_extent d es ns) → (o : Option ℕ) → Matches (extent_of (cons_option (axis_by o x) (filter_map axis (zip es xs))) d) (if option_map_or (λ k. k == d) o false then Some n else axis_extent d es ns)
      by_dimension rest None = rest
      by_dimension rest (Some c) = by_test rest c (c == d)

-- along an operand, whose map has a result for each axis
operand_matches : (d : ℕ) (m : MapShape) (o : Option Ty) (x : Datum) → length m.results ≡ length (extents_of o) → HoldsIn o x → Matches (extent_of (operand_axes m o) d) (axis_extent d m.results (grid_of x).extents)
operand_matches d m (Some (Tensor xs w)) (Cells v g) l h = axes_match d m.results xs g.extents h.1
operand_matches d m (Some (Tensor xs w)) (Number n) l h = absurd h
operand_matches d m (Some (Tensor xs w)) (Bits b) l h = absurd h
operand_matches d m (Some (Scalar e)) x l h = none_match d m.results (grid_of x).extents l where
  none_match : (d : ℕ) (es : List Expr) (ns : List ℕ) → length es ≡ 0 → Matches (extent_of (filter_map axis (zip es [])) d) (axis_extent d es ns)
  none_match d [] ns l = tt
  none_match d (e ∷ es) ns l = absurd (omega arith)
operand_matches d m (Some (Vector xs w)) x l h = none_match d m.results (grid_of x).extents l where
  none_match : (d : ℕ) (es : List Expr) (ns : List ℕ) → length es ≡ 0 → Matches (extent_of (filter_map axis (zip es [])) d) (axis_extent d es ns)
  none_match d [] ns l = tt
  none_match d (e ∷ es) ns l = absurd (omega arith)
operand_matches d m None x l h = none_match d m.results (grid_of x).extents l where
  none_match : (d : ℕ) (es : List Expr) (ns : List ℕ) → length es ≡ 0 → Matches (extent_of (filter_map axis (zip es [])) d) (axis_extent d es ns)
  none_match d [] ns l = tt
  none_match d (e ∷ es) ns l = absurd (omega arith)

fits_length : (n : ℕ) (m : MapShape) (o : Option Ty) → fits_operand n m o ≡ true → length m.results ≡ length (extents_of o)
fits_length n m o h = eqb-true _ _ (and_parts (m.dims == n) _ (and_parts (m.dims == n && length m.results == length (extents_of o)) _ h).0).1

later_output : (m q : MapShape) (ms : List MapShape) → output_map (m ∷ q ∷ ms) ≡ output_map (q ∷ ms)
later_output m q ms = ap (slice_get (m ∷ q ∷ ms)) (let e : length (m ∷ q ∷ ms) - 1 ≡ suc (length (q ∷ ms) - 1) = omega arith in e)

-- a type whose elements a generic reads
abbrev pub is_read : Option Ty → Bool
is_read (Some (Tensor xs w)) = true
is_read (Some (Scalar e)) = true
is_read _ = false

pub input_read : (o : Option Ty) (constant : Bool) (e : ElemTy) → is_input o constant e ≡ true → is_read o ≡ true
input_read (Some (Tensor es v)) constant e h = refl
input_read (Some (Scalar x)) constant e h = refl
input_read (Some (Vector es v)) constant e h = absurd cc
input_read None constant e h = absurd cc

pub output_read : (o : Option Ty) (e : ElemTy) → has_elements o e ≡ true → is_read o ≡ true
output_read (Some (Tensor es v)) e h = refl
output_read (Some (Scalar x)) e h = absurd cc
output_read (Some (Vector es v)) e h = absurd cc
output_read None e h = absurd cc

module _ (t : Types) (values : ℕ → Datum) (k : AllHold t values) (n : ℕ) (outs : ValueId) where
  abbrev input_axes : List MapShape → List ValueId → List Axis
  input_axes maps ins = flat_map (λ (x : MapShape × ValueId). operand_axes x.0 (t (x.1).0)) (zip maps ins)

  abbrev FitInputs : List MapShape → List ValueId → Type 0
  FitInputs maps ins = list_all (λ (x : ValueId × MapShape). fits_operand n x.1 (t (x.0).0)) (zip ins maps) ≡ true

  abbrev FitsOutput : List MapShape → Type 0
  FitsOutput maps = on_output (output_map maps) (λ m. fits_operand n m (t outs.0)) ≡ true

  all_match : (ins : List ValueId) (maps : List MapShape) → length maps ≡ suc (length ins) → FitInputs maps ins → FitsOutput maps → (d : ℕ) →
      Matches (extent_of (axes t maps ins outs) d) (operand_extent d maps (values_in values ins ++ values outs.0 ∷ []))
  all_match [] [] l f o d = absurd (omega arith)
  all_match [] (m ∷ []) l f o d =
      first_matches_none (extent_of (operand_axes m (t outs.0)) d) (axis_extent d m.results (grid_of (values outs.0)).extents)
      (operand_matches d m (t outs.0) (values outs.0) (fits_length n m (t outs.0) o) (k outs.0)) where
        first_matches_none : (a : Option Extent) (x : Option ℕ) → Matches a x → Matches a (first x None)
        first_matches_none None None h = h
        first_matches_none (Some e) (Some y) h = h
        first_matches_none None (Some y) h = absurd h
        first_matches_none (Some (Fixed e)) None h = absurd h
        first_matches_none (Some Any) None h = absurd h
  all_match [] (m ∷ q ∷ ms) l f o d = absurd (omega arith)
  all_match (v ∷ ins) [] l f o d = absurd (omega arith)
  all_match (v ∷ ins) (m ∷ []) l f o d = absurd (omega arith)
  all_match (v ∷ ins) (m ∷ q ∷ ms) l f o d =
      let both = and_parts (fits_operand n m (t v.0)) _ f in
      let rest = all_match ins (q ∷ ms) (omega arith) both.1 (ap (λ x. on_output x (λ m. fits_operand n m (t outs.0))) (sym (later_output m q ms)) ∙ o) d in
      let here = operand_matches d m (t v.0) (values v.0) (fits_length n m (t v.0) both.0) (k v.0) in
      let whole : axes t (m ∷ q ∷ ms) (v ∷ ins) outs ≡ operand_axes m (t v.0) ++ axes t (q ∷ ms) ins outs =
      (λ j. (operand_axes m (t v.0) ++ input_axes (q ∷ ms) ins) ++ output_axes (later_output m q ms j) (t outs.0))
      ∙ append_assoc (operand_axes m (t v.0)) (input_axes (q ∷ ms) ins) (output_axes (output_map (q ∷ ms)) (t outs.0)) in
      subst (λ x. Matches x (first (axis_extent d m.results (grid_of (values v.0)).extents) (operand_extent d (q ∷ ms) (values_in values ins ++ values outs.0 ∷ []))))
      (sym (ap (λ all. extent_of all d) whole ∙ extent_append (operand_axes m (t v.0)) (axes t (q ∷ ms) ins outs) d))
      (first_matches _ _ _ _ here rest)

-- POINTS
-- a coordinate lies below the extent of its dimension
below_extent : (g : ℕ → ℕ) (a n : ℕ) (p : List ℕ) → InBox (map g (count_up a n)) p → (d : ℕ) → d < n → get_or p d 0 < g (a + d)
below_extent g a zero p b d l = absurd (omega arith)
below_extent g a (suc n) [] b d l = absurd b
below_extent g a (suc n) (i ∷ p) b zero l = subst (λ k. i < g k) (let e : a ≡ a + 0 = omega arith in e) b.0
below_extent g a (suc n) (i ∷ p) b (suc d) l = subst (λ k. get_or p d 0 < g k) (let e : a + 1 + d ≡ a + suc d = omega arith in e) (below_extent g (a + 1) n p b.1 d (omega arith))

picked : (P : Axis → Bool) (all : List Axis) (d : ℕ) (y : Extent) → list_all P all ≡ true → extent_of all d ≡ Some y → P (d, y) ≡ true
picked P [] d y h e = absurd cc
picked P (a ∷ all) d y h e =
    let both = and_parts (P a) (list_all P all) h in
    by_test (a.0 == d) refl both.0 (λ q. picked P all d y both.1 q) e where
      by_test : (b : Bool) → (a.0 == d) ≡ b → P a ≡ true → (extent_of all d ≡ Some y → P (d, y) ≡ true) → (if b then Some a.1 else extent_of all d) ≡ Some y → P (d, y) ≡ true
      by_test true q here later e = (λ j. P (sym (eqb-true a.0 d q) j, sym (same_Some a.1 y e) j)) ∙ here
      by_test false q here later e = later e

-- a size for each dimension, by the extents of types
module _ (all : List Axis) (agree : axes_agree all ≡ true) (n : ℕ) (size : ℕ → Option ℕ) (matches : (d : ℕ) → Matches (extent_of all d) (size d))
    (cover : (d : ℕ) → d < n → is_some (extent_of all d) ≡ true) where
  abbrev box : List ℕ
  box = map (λ d. unwrap_or (size d) 0) (count_up 0 n)

  -- a dimension that is selected has a fixed extent, and this size
  sized_dimension : (d m : ℕ) → extent_of all d ≡ Some (Fixed m) → unwrap_or (size d) 0 ≡ m
  sized_dimension d m e = by_size (size d) (subst (λ o. Matches o (size d)) e (matches d)) where
    by_size : (s : Option ℕ) → Matches (Some (Fixed m)) s → unwrap_or s 0 ≡ m
    by_size (Some k) h = h
    by_size None h = absurd h

  own_agrees : (d : ℕ) (y : Extent) → extent_of all d ≡ Some y → is_same_extent y y ≡ true
  own_agrees d y e = sym (ap (λ o. has_extent o y) e) ∙ picked (λ a. has_extent (extent_of all a.0) a.1) all d y agree e

  record Known (d : ℕ) : Type 0 where
    extent : ℕ
    is : extent_of all d ≡ Some (Fixed extent)

  known : (d : ℕ) → d < n → Known d
  known d l = by_extent (extent_of all d) refl (cover d l) where
    by_extent : (o : Option Extent) → extent_of all d ≡ o → is_some o ≡ true → Known d
    by_extent None e s = absurd cc
    by_extent (Some (Fixed m)) e s = record { extent = m; is = e }
    by_extent (Some Any) e s = absurd (let q = own_agrees d Any e in cc)

  module _ (p : List ℕ) (inside : InBox box p) where
    coordinate_below : (d m : ℕ) → d < n → extent_of all d ≡ Some (Fixed m) → get_or p d 0 < m
    coordinate_below d m l e =
        subst (λ k. get_or p d 0 < k) (ap (λ k. unwrap_or (size k) 0) (let q : 0 + d ≡ d = omega arith in q) ∙ sized_dimension d m e) (below_extent (λ d. unwrap_or (size d) 0) 0 n p inside d l)

    abbrev top : ℕ → ℕ
    top d = unwrap_or (size d) 0 - 1

    under_top : (d : ℕ) → d < n → get_or p d 0 ≤ top d
    under_top d l =
        let e = known d l in
        let s = sized_dimension d e.extent e.is in
        let b = coordinate_below d e.extent l e.is in
        omega (arith, s, b)

    less_one : (m : ℕ) → 0 < m → pos m -ℤ pos 1 ≡ pos (m - 1)
    less_one m l = omega (arith, ints, l)

    greatest_is : (d : ℕ) → d < n → greatest (extent_of all d) ≡ pos (top d)
    greatest_is d l =
        let e = known d l in
        let s = sized_dimension d e.extent e.is in
        let b = coordinate_below d e.extent l e.is in
        ap greatest e.is ∙ less_one e.extent (omega (arith, b)) ∙ (λ j. pos (sym s j - 1))

    -- along one axis
    axis_inside : (e : Expr) (x : Extent) (size_of : ℕ) → IsPlain n e → IsSized (x ∷ []) (size_of ∷ []) →
        list_all (λ a. has_extent (extent_of all a.0) a.1) (cons_option (axis (e, x)) []) ≡ true → stays_in (extent_of all) (e, x) ≡ true →
        to_nat (value_at e (map pos p)) < size_of
    unfolding axis_by
    axis_inside e x size_of plains sized agrees stays =
        by_dimension (dimension_of e) refl agrees stays where
          value : to_nat (value_at e (map pos p)) ≡ to_nat e.constant + weight e.terms (λ d. get_or p d 0)
          value = value_is n e p plains

          fixed_size : (x : Extent) (m : ℕ) → x ≡ Fixed m → IsSized (x ∷ []) (size_of ∷ []) → size_of ≡ m
          fixed_size (Fixed i) m e h = h.0 ∙ of_fixed i m e where
            of_fixed : (i m : ℕ) → Fixed i ≡ Fixed m → i ≡ m
            of_fixed i m e = let q = e in cc
          fixed_size Any m e h = absurd (let q = e in cc)

          by_dimension : (o : Option ℕ) → dimension_of e ≡ o → list_all (λ a. has_extent (extent_of all a.0) a.1) (cons_option (axis_by o x) []) ≡ true →
              (is_some o || is_below (greatest_value (extent_of all) e) x) ≡ true → to_nat (value_at e (map pos p)) < size_of
          by_dimension (Some d) q a s =
              let l = alone_below n e d plains q in
              let y = known d l in
              let h : has_extent (extent_of all d) x ≡ true = (and_parts (has_extent (extent_of all d) x) true a).0 in
              let same : x ≡ Fixed y.extent = same_Some x (Fixed y.extent) (sym (has_is (extent_of all d) x h) ∙ y.is) in
              let b = coordinate_below d y.extent l y.is in
              let v = alone_value e d (λ d. get_or p d 0) q in
              omega (arith, value, v, b, fixed_size x y.extent same sized)
          by_dimension None q a s = by_extent x sized s where
            by_extent : (x : Extent) → IsSized (x ∷ []) (size_of ∷ []) → is_below (greatest_value (extent_of all) e) x ≡ true → to_nat (value_at e (map pos p)) < size_of
            by_extent (Fixed m) h s =
                let g : greatest_value (extent_of all) e ≡ pos (to_nat e.constant + weight e.terms top) =
                (λ j. plains.0 j +ℤ sum_is n e.terms (λ d. greatest (extent_of all d)) top plains.1 greatest_is j) in
                let l : to_nat e.constant + weight e.terms top < m = ltb-true _ m (ap (λ z. int_lt z (pos m)) (sym g) ∙ s) in
                let w = weight_le n e.terms (λ d. get_or p d 0) top plains.1 under_top in
                omega (arith, value, l, w, h.0)
            by_extent Any h s = absurd cc

    one_axis : (o : Option Axis) (rest : List Axis) (P : Axis → Bool) → list_all P (cons_option o rest) ≡ true → (list_all P (cons_option o []) ≡ true) × (list_all P rest ≡ true)
    one_axis None rest P h = (refl, h)
    one_axis (Some a) rest P h = let both = and_parts (P a) (list_all P rest) h in (and_from _ _ both.0 refl, both.1)

    one_size : (x : Extent) (xs : List Extent) (m : ℕ) (ns : List ℕ) → IsSized (x ∷ xs) (m ∷ ns) → IsSized (x ∷ []) (m ∷ []) × IsSized xs ns
    one_size (Fixed i) xs m ns h = ((h.0, tt), h.1)
    one_size Any xs m ns h = (tt, h)

    -- along the axes of an operand
    axes_inside : (es : List Expr) (xs : List Extent) (ns : List ℕ) → Each (IsPlain n) es → length es ≡ length xs → IsSized xs ns →
        list_all (λ a. has_extent (extent_of all a.0) a.1) (filter_map axis (zip es xs)) ≡ true → list_all (stays_in (extent_of all)) (zip es xs) ≡ true →
        InBox ns (map to_nat (map (λ e. value_at e (map pos p)) es))
    axes_inside [] [] [] plains l h a s = tt
    axes_inside [] [] (m ∷ ns) plains l h a s = absurd h
    axes_inside [] (x ∷ xs) ns plains l h a s = absurd (omega arith)
    axes_inside (e ∷ es) [] ns plains l h a s = absurd (omega arith)
    axes_inside (e ∷ es) (Fixed i ∷ xs) [] plains l h a s = absurd h
    axes_inside (e ∷ es) (Any ∷ xs) [] plains l h a s = absurd h
    axes_inside (e ∷ es) (x ∷ xs) (m ∷ ns) plains l h a s =
        let sizes = one_size x xs m ns h in
        let agrees = one_axis (axis (e, x)) (filter_map axis (zip es xs)) (λ a. has_extent (extent_of all a.0) a.1) a in
        let stays = and_parts (stays_in (extent_of all) (e, x)) _ s in
        (axis_inside e x m plains.0 sizes.0 agrees.0 stays.0, axes_inside es xs ns plains.1 (omega arith) sizes.1 agrees.1 stays.1)

  plains_of : (es : List Expr) → list_all (expr_fits n) es ≡ true → list_all is_not_negative es ≡ true → Each (IsPlain n) es
  plains_of [] f h = tt
  plains_of (e ∷ es) f h =
      let fits = and_parts (expr_fits n e) _ f in
      let both = and_parts (is_not_negative e) _ h in
      (plain n e fits.0 both.0, plains_of es fits.1 both.1)

  -- an operand that is a tensor is read inside
  operand_inside : (m : MapShape) (o : Option Ty) (x : Datum) → is_read o ≡ true → HoldsIn o x → fits_operand n m o ≡ true → map_fits m ≡ true →
      list_all (λ a. has_extent (extent_of all a.0) a.1) (operand_axes m o) ≡ true → operand_stays_in (extent_of all) m o ≡ true → ReadsInside box m x
  operand_inside m (Some (Tensor xs w)) (Cells v g) r h f made a s = λ p inside.
      let fits = and_parts (m.dims == n && length m.results == length xs) _ f in
      let dims : m.dims ≡ n = eqb-true _ _ (and_parts (m.dims == n) _ fits.0).0 in
      axes_inside p inside m.results xs g.extents (plains_of m.results (ap (λ k. list_all (expr_fits k) m.results) (sym dims) ∙ made) fits.1)
      (eqb-true _ _ (and_parts (m.dims == n) _ fits.0).1) h.1 a s
  operand_inside m (Some (Tensor xs w)) (Number i) r h f made a s = tt
  operand_inside m (Some (Tensor xs w)) (Bits b) r h f made a s = tt
  operand_inside m (Some (Scalar e)) (Number i) r h f made a s = tt
  operand_inside m (Some (Scalar e)) (Bits b) r h f made a s = tt
  operand_inside m (Some (Scalar (Int w))) (Cells v g) r h f made a s = absurd h
  operand_inside m (Some (Scalar Index)) (Cells v g) r h f made a s = absurd h
  operand_inside m (Some (Vector xs w)) x r h f made a s = absurd cc
  operand_inside m None x r h f made a s = absurd cc

  -- where a dimension has no extent there is no point
  zero_inside : (p : List ℕ) (m : ℕ) (a : ℕ) (kinds : List Iter) → a + length kinds ≤ n → list_any (λ i. is_zero_extent (extent_of all i.0)) (enumerate_from a kinds) ≡ true → InBox box p → ⊥
  zero_inside p m a [] l h inside = absurd cc
  zero_inside p m a (i ∷ kinds) l h inside = by_test (is_zero_extent (extent_of all a)) refl (λ q. zero_inside p m (a + 1) kinds (omega (arith, l)) q inside) h where
    none : (o : Option Extent) → extent_of all a ≡ o → is_zero_extent o ≡ true → ⊥
    none None e z = absurd cc
    none (Some Any) e z = absurd cc
    none (Some (Fixed k)) e z = absurd (let b = coordinate_below p inside a k (omega (arith, l)) e in let q = eqb-true k 0 z in omega (arith, b, q))

    by_test : (b : Bool) → is_zero_extent (extent_of all a) ≡ b → (list_any (λ i. is_zero_extent (extent_of all i.0)) (enumerate_from (a + 1) kinds) ≡ true → ⊥) → (b || list_any (λ i. is_zero_extent (extent_of all i.0)) (enumerate_from (a + 1) kinds)) ≡ true → ⊥
    by_test true e later h = none (extent_of all a) refl e
    by_test false e later h = later h

  -- every axis that a dimension alone selects has the dimension's extent
  selected_is : (d : ℕ) (o : Option ℕ) → option_map_or (λ k. k == d) o false ≡ true → o ≡ Some d
  selected_is d None h = absurd cc
  selected_is d (Some c) h = ap Some (eqb-true c d h)

  none_have : (d m : ℕ) (es : List Expr) → AxesHave d m es []
  none_have d m [] = tt
  none_have d m (e ∷ es) = tt

  split_axis : (o : Option Axis) (rest : List Axis) (P : Axis → Bool) → list_all P (cons_option o rest) ≡ true → (list_all P (cons_option o []) ≡ true) × (list_all P rest ≡ true)
  split_axis None rest P h = (refl, h)
  split_axis (Some a) rest P h = let both = and_parts (P a) (list_all P rest) h in (and_from _ _ both.0 refl, both.1)

  split_size : (x : Extent) (xs : List Extent) (m : ℕ) (ns : List ℕ) → IsSized (x ∷ xs) (m ∷ ns) → IsSized (x ∷ []) (m ∷ []) × IsSized xs ns
  split_size (Fixed i) xs m ns h = ((h.0, tt), h.1)
  split_size Any xs m ns h = (tt, h)

  axis_has : (d m : ℕ) → extent_of all d ≡ Some (Fixed m) → (e : Expr) (x : Extent) (i : ℕ) → IsSized (x ∷ []) (i ∷ []) →
      list_all (λ a. has_extent (extent_of all a.0) a.1) (cons_option (axis (e, x)) []) ≡ true → selects d e ≡ true → i ≡ m
  unfolding axis_by
  axis_has d m known e x i sized agrees s =
      let alone : dimension_of e ≡ Some d = sym (dimension_same e) ∙ selected_is d (points.dimension_of e) s in
      let here : list_all (λ a. has_extent (extent_of all a.0) a.1) (cons_option (axis_by (Some d) x) []) ≡ true =
      subst (λ o. list_all (λ a. has_extent (extent_of all a.0) a.1) (cons_option (axis_by o x) []) ≡ true) alone agrees in
      by_extent x sized (same_Some x (Fixed m) (sym (has_is (extent_of all d) x (and_parts (has_extent (extent_of all d) x) true here).0) ∙ known)) where
        by_extent : (x : Extent) → IsSized (x ∷ []) (i ∷ []) → x ≡ Fixed m → i ≡ m
        by_extent (Fixed k) h e = h.0 ∙ of_fixed k e where
          of_fixed : (k : ℕ) → Fixed k ≡ Fixed m → k ≡ m
          of_fixed k e = let q = e in cc
        by_extent Any h e = absurd (let q = e in cc)

  axes_have : (d m : ℕ) → extent_of all d ≡ Some (Fixed m) → (es : List Expr) (xs : List Extent) (ns : List ℕ) → IsSized xs ns →
      list_all (λ a. has_extent (extent_of all a.0) a.1) (filter_map axis (zip es xs)) ≡ true → AxesHave d m es ns
  axes_have d m known [] xs ns h a = tt
  axes_have d m known (e ∷ es) [] [] h a = tt
  axes_have d m known (e ∷ es) [] (i ∷ ns) h a = absurd h
  axes_have d m known (e ∷ es) (Fixed i ∷ xs) [] h a = absurd h
  axes_have d m known (e ∷ es) (Any ∷ xs) [] h a = absurd h
  axes_have d m known (e ∷ es) (x ∷ xs) (i ∷ ns) h a =
      let sizes = split_size x xs i ns h in
      let agrees = split_axis (axis (e, x)) (filter_map axis (zip es xs)) (λ a. has_extent (extent_of all a.0) a.1) a in
      (axis_has d m known e x i sizes.0 agrees.0, axes_have d m known es xs ns sizes.1 agrees.1)

  operand_has : (d m : ℕ) → extent_of all d ≡ Some (Fixed m) → (q : MapShape) (o : Option Ty) (x : Datum) → is_read o ≡ true → HoldsIn o x →
      list_all (λ a. has_extent (extent_of all a.0) a.1) (operand_axes q o) ≡ true → AxesHave d m q.results (grid_of x).extents
  operand_has d m known q (Some (Tensor xs w)) (Cells v g) r h a = axes_have d m known q.results xs g.extents h.1 a
  operand_has d m known q (Some (Tensor xs w)) (Number i) r h a = none_have d m q.results
  operand_has d m known q (Some (Tensor xs w)) (Bits b) r h a = none_have d m q.results
  operand_has d m known q (Some (Scalar e)) (Number i) r h a = none_have d m q.results
  operand_has d m known q (Some (Scalar e)) (Bits b) r h a = none_have d m q.results
  operand_has d m known q (Some (Scalar (Int w))) (Cells v g) r h a = absurd h
  operand_has d m known q (Some (Scalar Index)) (Cells v g) r h a = absurd h
  operand_has d m known q (Some (Vector xs w)) x r h a = absurd cc
  operand_has d m known q None x r h a = absurd cc

matched_some : (o : Option Extent) (s : Option ℕ) → Matches o s → is_some o ≡ true → is_some s ≡ true
matched_some None s h i = absurd cc
matched_some (Some (Fixed n)) (Some m) h i = refl
matched_some (Some Any) (Some m) h i = refl
matched_some (Some (Fixed n)) None h i = absurd h
matched_some (Some Any) None h i = absurd h

box_at : (g : ℕ → ℕ) (a n d : ℕ) → d < n → get_or (map g (count_up a n)) d 0 ≡ g (a + d)
box_at g a zero d l = absurd (omega arith)
box_at g a (suc n) zero l = ap g (let e : a ≡ a + 0 = omega arith in e)
box_at g a (suc n) (suc d) l = box_at g (a + 1) n d (omega arith) ∙ ap g (let e : a + 1 + d ≡ a + suc d = omega arith in e)

-- each numbered item
numbered_at : (test : ℕ → Bool) (a : ℕ) (kinds : List Iter) → list_all (λ (i : ℕ × Iter). test i.0) (enumerate_from a kinds) ≡ true → (d : ℕ) → d < length kinds → test (a + d) ≡ true
numbered_at test a [] h d l = absurd (omega arith)
numbered_at test a (i ∷ kinds) h zero l = ap test (let e : a + 0 ≡ a = omega arith in e) ∙ (and_parts (test a) _ h).0
numbered_at test a (i ∷ kinds) h (suc d) l =
    ap test (let e : a + suc d ≡ a + 1 + d = omega arith in e) ∙ numbered_at test (a + 1) kinds (and_parts (test a) _ h).1 d (omega arith)

-- results that are dimensions alone stay in
alone_stay : (extents : Extents) (es : List Expr) (xs : List Extent) → list_all (λ e. is_some (dimension_of e)) es ≡ true → list_all (stays_in extents) (zip es xs) ≡ true
alone_stay extents [] xs h = refl
alone_stay extents (e ∷ es) [] h = refl
alone_stay extents (e ∷ es) (x ∷ xs) h =
    let both = and_parts (is_some (dimension_of e)) _ h in
    and_from _ _ (λ j. both.0 j || is_below (greatest_value extents e) x) (alone_stay extents es xs both.1)

no_points_inside : (box : List ℕ) (maps : List MapShape) (operands : List Datum) → length maps ≡ length operands → ((p : List ℕ) → InBox box p → ⊥) → ReadInside box maps operands
no_points_inside box [] [] l h = tt
no_points_inside box [] (x ∷ xs) l h = absurd (omega arith)
no_points_inside box (m ∷ ms) [] l h = absurd (omega arith)
no_points_inside box (m ∷ ms) (Cells v g ∷ xs) l h = ((λ p i. absurd (h p i)), no_points_inside box ms xs (omega arith) h)
no_points_inside box (m ∷ ms) (Number i ∷ xs) l h = (tt, no_points_inside box ms xs (omega arith) h)
no_points_inside box (m ∷ ms) (Bits b ∷ xs) l h = (tt, no_points_inside box ms xs (omega arith) h)

operands_length : (values : ℕ → Datum) (ins : List ValueId) (out : Datum) → length (values_in values ins ++ out ∷ []) ≡ suc (length ins)
operands_length values [] out = refl
operands_length values (v ∷ ins) out = ap suc (operands_length values ins out)

-- what the rules V2, V5, V7 and V8 say of a generic
pub record Rules (t : Types) (maps : List MapShape) (iterators : List Iter) (ins : List ValueId) (outs : ValueId) : Type 0 where
  pub long : length maps ≡ suc (length ins)
  pub made : list_all map_fits maps ≡ true
  pub inputs : list_all (λ (x : ValueId × MapShape). fits_operand (length iterators) x.1 (t (x.0).0)) (zip ins maps) ≡ true
  pub output : on_output (output_map maps) (λ m. fits_operand (length iterators) m (t outs.0) && is_projected_permutation m) ≡ true
  pub cover : list_all (λ (i : ℕ × Iter). is_some (extent_of (axes t maps ins outs) i.0)) (enumerate_from 0 iterators) ≡ true
  pub agree : axes_agree (axes t maps ins outs) ≡ true
  pub windows : (has_no_points (extent_of (axes t maps ins outs)) iterators || list_all (λ (x : MapShape × ValueId). operand_stays_in (extent_of (axes t maps ins outs)) x.0 (t (x.1).0)) (zip maps ins)) ≡ true
  pub input_types : list_all (λ (v : ValueId). is_read (t v.0)) ins ≡ true
  pub output_type : is_read (t outs.0) ≡ true

module _ (t : Types) (values : ℕ → Datum) (k : AllHold t values) (maps : List MapShape) (iterators : List Iter) (ins : List ValueId) (outs : ValueId) (r : Rules t maps iterators ins outs) where
  abbrev all : List Axis
  all = axes t maps ins outs

  abbrev n : ℕ
  n = length iterators

  abbrev operands : List Datum
  operands = values_in values ins ++ values outs.0 ∷ []

  abbrev size : ℕ → Option ℕ
  size d = operand_extent d maps operands

  fits_alone : (o : Option MapShape) → on_output o (λ m. fits_operand n m (t outs.0) && is_projected_permutation m) ≡ true → on_output o (λ m. fits_operand n m (t outs.0)) ≡ true
  fits_alone None h = absurd cc
  fits_alone (Some m) h = (and_parts (fits_operand n m (t outs.0)) _ h).0

  sizes_match : (d : ℕ) → Matches (extent_of all d) (size d)
  sizes_match = all_match t values k n outs ins maps r.long r.inputs (fits_alone (output_map maps) r.output)

  covered : (d : ℕ) → d < n → is_some (extent_of all d) ≡ true
  covered d l = ap (λ k. is_some (extent_of all k)) (let e : d ≡ 0 + d = omega arith in e) ∙ numbered_at (λ d. is_some (extent_of all d)) 0 iterators r.cover d l

  each_inside : (qs : List MapShape) (vs : List ValueId) → length qs ≡ suc (length vs) → list_all map_fits qs ≡ true →
      list_all (λ (x : ValueId × MapShape). fits_operand n x.1 (t (x.0).0)) (zip vs qs) ≡ true →
      on_output (output_map qs) (λ m. fits_operand n m (t outs.0) && is_projected_permutation m) ≡ true →
      list_all (λ a. has_extent (extent_of all a.0) a.1) (axes t qs vs outs) ≡ true →
      list_all (λ (x : MapShape × ValueId). operand_stays_in (extent_of all) x.0 (t (x.1).0)) (zip qs vs) ≡ true →
      list_all (λ (v : ValueId). is_read (t v.0)) vs ≡ true →
      ReadInside (generic_box maps n operands) qs (values_in values vs ++ values outs.0 ∷ [])
  each_inside [] vs l made f o a s reads = absurd (omega arith)
  each_inside (m ∷ []) [] l made f o a s reads =
      let both = and_parts (fits_operand n m (t outs.0)) _ o in
      let alone = and_parts (list_all (λ e. is_some (dimension_of e)) m.results) _ both.1 in (
        operand_inside all r.agree n size sizes_match covered m (t outs.0) (values outs.0) r.output_type (k outs.0) both.0 (and_parts (map_fits m) _ made).0 a
            (alone_stay (extent_of all) m.results (extents_of (t outs.0)) alone.0),
        tt,
      )
  each_inside (m ∷ q ∷ qs) [] l made f o a s reads = absurd (omega arith)
  each_inside (m ∷ []) (v ∷ vs) l made f o a s reads = absurd (omega arith)
  each_inside (m ∷ q ∷ qs) (v ∷ vs) l made f o a s reads =
      let fits = and_parts (fits_operand n m (t v.0)) _ f in
      let makes = and_parts (map_fits m) _ made in
      let stays = and_parts (operand_stays_in (extent_of all) m (t v.0)) _ s in
      let types = and_parts (is_read (t v.0)) _ reads in
      let P : Axis → Bool = λ a. has_extent (extent_of all a.0) a.1 in
      let whole : axes t (m ∷ q ∷ qs) (v ∷ vs) outs ≡ operand_axes m (t v.0) ++ axes t (q ∷ qs) vs outs =
      (λ j. (operand_axes m (t v.0) ++ flat_map (λ (x : MapShape × ValueId). operand_axes x.0 (t (x.1).0)) (zip (q ∷ qs) vs)) ++ output_axes (later_output m q qs j) (t outs.0))
      ∙ append_assoc (operand_axes m (t v.0)) (flat_map (λ (x : MapShape × ValueId). operand_axes x.0 (t (x.1).0)) (zip (q ∷ qs) vs)) (output_axes (output_map (q ∷ qs)) (t outs.0)) in
      let agrees = and_parts (list_all P (operand_axes m (t v.0))) (list_all P (axes t (q ∷ qs) vs outs))
      (sym (list_all-append P (operand_axes m (t v.0)) (axes t (q ∷ qs) vs outs)) ∙ ap (list_all P) (sym whole) ∙ a) in (
        operand_inside all r.agree n size sizes_match covered m (t v.0) (values v.0) types.0 (k v.0) fits.0 makes.0 agrees.0 stays.0,
        each_inside (q ∷ qs) vs (omega arith) makes.1 fits.1
            (ap (λ x. on_output x (λ m. fits_operand n m (t outs.0) && is_projected_permutation m)) (sym (later_output m q qs)) ∙ o) agrees.1 stays.1 types.1,
      )

  pub reads_inside : ReadInside (generic_box maps n operands) maps operands
  reads_inside = by_points (has_no_points (extent_of all) iterators) refl r.windows where
    by_points : (b : Bool) → has_no_points (extent_of all) iterators ≡ b →
        (b || list_all (λ (x : MapShape × ValueId). operand_stays_in (extent_of all) x.0 (t (x.1).0)) (zip maps ins)) ≡ true → ReadInside (generic_box maps n operands) maps operands
    by_points true e h =
        no_points_inside (generic_box maps n operands) maps operands (r.long ∙ sym (operands_length values ins (values outs.0)))
        (λ p i. zero_inside all r.agree n size sizes_match covered p 0 0 iterators (omega arith) e i)
    by_points false e h = each_inside maps ins r.long r.made r.inputs r.output r.agree h r.input_types

  each_has : (d m : ℕ) → extent_of all d ≡ Some (Fixed m) → (qs : List MapShape) (vs : List ValueId) → length qs ≡ suc (length vs) →
      list_all (λ a. has_extent (extent_of all a.0) a.1) (axes t qs vs outs) ≡ true → list_all (λ (v : ValueId). is_read (t v.0)) vs ≡ true →
      AllHave d m qs (values_in values vs ++ values outs.0 ∷ [])
  each_has d m known [] vs l a reads = absurd (omega arith)
  each_has d m known (q ∷ []) [] l a reads =
      (operand_has all r.agree n size sizes_match covered d m known q (t outs.0) (values outs.0) r.output_type (k outs.0) a, tt)
  each_has d m known (q ∷ q' ∷ qs) [] l a reads = absurd (omega arith)
  each_has d m known (q ∷ []) (v ∷ vs) l a reads = absurd (omega arith)
  each_has d m known (q ∷ q' ∷ qs) (v ∷ vs) l a reads =
      let types = and_parts (is_read (t v.0)) _ reads in
      let P : Axis → Bool = λ a. has_extent (extent_of all a.0) a.1 in
      let whole : axes t (q ∷ q' ∷ qs) (v ∷ vs) outs ≡ operand_axes q (t v.0) ++ axes t (q' ∷ qs) vs outs =
      (λ j. (operand_axes q (t v.0) ++ flat_map (λ (x : MapShape × ValueId). operand_axes x.0 (t (x.1).0)) (zip (q' ∷ qs) vs)) ++ output_axes (later_output q q' qs j) (t outs.0))
      ∙ append_assoc (operand_axes q (t v.0)) (flat_map (λ (x : MapShape × ValueId). operand_axes x.0 (t (x.1).0)) (zip (q' ∷ qs) vs)) (output_axes (output_map (q' ∷ qs)) (t outs.0)) in
      let agrees = and_parts (list_all P (operand_axes q (t v.0))) (list_all P (axes t (q' ∷ qs) vs outs))
      (sym (list_all-append P (operand_axes q (t v.0)) (axes t (q' ∷ qs) vs outs)) ∙ ap (list_all P) (sym whole) ∙ a) in
      (operand_has all r.agree n size sizes_match covered d m known q (t v.0) (values v.0) types.0 (k v.0) agrees.0, each_has d m known (q' ∷ qs) vs (omega arith) agrees.1 types.1)

  pub has_box : HasBox maps n operands
  has_box = record {
    agrees = λ d l.
        let e = known all r.agree n size sizes_match covered d l in
        let s : get_or (generic_box maps n operands) d 0 ≡ e.extent =
        box_at (λ d. unwrap_or (size d) 0) 0 n d l ∙ ap (λ k. unwrap_or (size k) 0) (let q : 0 + d ≡ d = omega arith in q) ∙ sized_dimension all r.agree n size sizes_match covered d e.extent e.is in
        subst (λ i. AllHave d i maps operands) (sym s) (each_has d e.extent e.is maps ins r.long r.agree r.input_types);
    selected = λ d l. matched_some (extent_of all d) (size d) (sizes_match d) (covered d l);
  }
