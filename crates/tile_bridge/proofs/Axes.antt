-- What the verifier knows of the extents of dimensions, and what the operands have in a state.
use Rattle.std.proofs.Common.{◌≡◌, ℕ, ◌==◌, Bool, true, false, ℤ, pos, negsuc, List, [], ◌∷◌, ◌++◌, Option, Some, None, refl, ap, sym, subst, ◌∙◌, eqb-true}
use Rattle.std.specs.Prelude.{is_some, zip, flat_map, unwrap_or, if◌then◌else◌, ⊤}
use Rattle.std.specs.List.{list_all, filter_map, cons_option}
use Rattle.std.specs.Option.{option_map_or}
use Rattle.std.specs.Ordering.{int_eq}
use Rattle.std.proofs.lemmas.Bool.{and_parts}
use Rattle.std.proofs.lemmas.Bool.Decides.{Decides-int_eq}
use Rattle.std.proofs.lemmas.Option.{none-some, same_Some}
use Rattle.affine_maps.specs.Shape.{MapShape}
use Rattle.affine_maps.specs.Permutation as affine
use Rattle.affine_maps.specs.declared.map.Expr.{Expr}
use Rattle.mlir_ir.specs.Count.{first}
use Rattle.mlir_ir.specs.declared.tree.Extent.{Extent}
use Rattle.mlir_ir.specs.declared.tree.Extent.TheVariants.{Fixed, Any}
use Rattle.mlir_ir.specs.declared.tree.ValueId.{ValueId}
use Rattle.mlir_meaning.specs.Grids.{Each}
use Rattle.mlir_meaning.specs.Points.{is_one, is_zero, lone_dimension, dimension_of, selects}
use Rattle.mlir_meaning.specs.States.{State, grid_of}
use Rattle.mlir_meaning.specs.Meaning.{values_in}
use Rattle.mlir_meaning.specs.Structured.{axis_extent, operand_extent}
use Rattle.mlir_verify.specs.Place.{Types}
use Rattle.mlir_verify.specs.Tensors.{extents_of}
use Rattle.mlir_verify.specs.Maps.{Axis, axis, operand_axes, extent_of}
use Rattle.mlir_verify.specs.Extents.{is_same_extent, has_extent, axes_agree}
use Rattle.point_laws.proofs.Lists.{both_ways}
use Rattle.verified_runs.specs.Typed.{IsSized}
use Rattle.tile_bridge.specs.Instances.{HasExtents}

-- ONE DEFINITION OF A LONE DIMENSION FOR THE OTHER
eq_one : (z : ℤ) → int_eq z (pos 1) ≡ is_one z
eq_one z = both_ways (int_eq z (pos 1)) (is_one z) (λ h. ap is_one ((Decides-int_eq z (pos 1)).0 h)) (λ h. (λ j. int_eq (back z h j) (pos 1))) where
  back : (z : ℤ) → is_one z ≡ true → z ≡ pos 1
  back (pos n) h = ap pos (eqb-true n 1 h)
  back (negsuc n) h = absurd cc

eq_zero : (z : ℤ) → int_eq z (pos 0) ≡ is_zero z
eq_zero z = both_ways (int_eq z (pos 0)) (is_zero z) (λ h. ap is_zero ((Decides-int_eq z (pos 0)).0 h)) (λ h. (λ j. int_eq (back z h j) (pos 0))) where
  back : (z : ℤ) → is_zero z ≡ true → z ≡ pos 0
  back (pos n) h = ap pos (eqb-true n 0 h)
  back (negsuc n) h = absurd cc

lone_same : (ts : List (ℕ × ℤ)) → affine.dimension_of_terms ts ≡ lone_dimension ts
lone_same [] = refl
lone_same (t ∷ []) = λ j. if eq_one t.1 j then Some t.0 else None
lone_same (t ∷ u ∷ ts) = refl

pub dimension_same : (e : Expr) → affine.dimension_of e ≡ dimension_of e
dimension_same e = λ j. if eq_zero e.constant j then lone_same e.terms j else None

-- an axis has a place where its expression is a dimension
pub axis_none : (e : Expr) (x : Extent) → affine.dimension_of e ≡ None → axis (e, x) ≡ None
axis_none e x q = λ j. elim (q j) as (λ _. Option Axis) [ None ↦ None | Some d ↦ Some (d, x) ]

pub axis_some : (e : Expr) (x : Extent) (k : ℕ) → affine.dimension_of e ≡ Some k → axis (e, x) ≡ Some (k, x)
axis_some e x k q = λ j. elim (q j) as (λ _. Option Axis) [ None ↦ None | Some d ↦ Some (d, x) ]

pub selects_is : (d : ℕ) (e : Expr) → selects d e ≡ option_map_or (λ k. k == d) (affine.dimension_of e) false
selects_is d e = λ j. option_map_or (λ k. k == d) (sym (dimension_same e) j) false

-- SIZES OF EXTENTS
pub one_sized : (x : Extent) (xs : List Extent) (y : ℕ) (ys : List ℕ) → IsSized (x ∷ xs) (y ∷ ys) → IsSized (x ∷ []) (y ∷ []) × IsSized xs ys
one_sized (Fixed m) xs y ys h = ((h.0, tt), h.1)
one_sized Any xs y ys h = (tt, h)

pub short : (x : Extent) (xs : List Extent) → IsSized (x ∷ xs) [] → ⊥
short (Fixed m) xs h = h
short Any xs h = h

-- the extent that is known of a dimension, and the size that it has
abbrev pub IsSize : Option Extent → Option ℕ → Type 0
IsSize None None = ⊤
IsSize (Some x) (Some y) = IsSized (x ∷ []) (y ∷ [])
IsSize _ _ = ⊥

first_sizes : (a b : Option Extent) (m n : Option ℕ) → IsSize a m → IsSize b n → IsSize (first a b) (first m n)
first_sizes None b None n s r = r
first_sizes (Some x) b (Some y) n s r = s
first_sizes None b (Some y) n s r = absurd s
first_sizes (Some x) b None n s r = absurd s

first_extent : (xs ys : List Axis) (d : ℕ) → extent_of (xs ++ ys) d ≡ first (extent_of xs d) (extent_of ys d)
first_extent [] ys d = refl
first_extent (x ∷ xs) ys d = by (x.0 == d) (first_extent xs ys d) where
  by : (b : Bool) → extent_of (xs ++ ys) d ≡ first (extent_of xs d) (extent_of ys d) →
      (if b then Some x.1 else extent_of (xs ++ ys) d) ≡ first (if b then Some x.1 else extent_of xs d) (extent_of ys d)
  by true h = refl
  by false h = h

chosen_sizes : (b : Bool) (x : Extent) (y : ℕ) (o : Option Extent) (m : Option ℕ) → IsSized (x ∷ []) (y ∷ []) → IsSize o m → IsSize (if b then Some x else o) (if b then Some y else m)
chosen_sizes true x y o m s r = s
chosen_sizes false x y o m s r = r

-- of the axes of one operand
operand_sizes : (d : ℕ) (es : List Expr) (xs : List Extent) (ys : List ℕ) → IsSized xs ys → IsSize (extent_of (filter_map axis (zip es xs)) d) (axis_extent d es ys)
operand_sizes d [] xs ys s = tt
operand_sizes d (e ∷ es) [] [] s = tt
operand_sizes d (e ∷ es) (x ∷ xs) (y ∷ ys) s =
    let parts = one_sized x xs y ys s in
    let rest : IsSize (extent_of (filter_map axis (zip es xs)) d) (axis_extent d es ys) = operand_sizes d es xs ys parts.1 in
    by (affine.dimension_of e) refl parts.0 rest
  where
    by : (o : Option ℕ) → affine.dimension_of e ≡ o → IsSized (x ∷ []) (y ∷ []) → IsSize (extent_of (filter_map axis (zip es xs)) d) (axis_extent d es ys) →
        IsSize (extent_of (filter_map axis (zip (e ∷ es) (x ∷ xs))) d) (axis_extent d (e ∷ es) (y ∷ ys))
    by None q s rest =
        let sel : selects d e ≡ false = selects_is d e ∙ ap (λ o. option_map_or (λ k. k == d) o false) q in
        subst (λ (a : Option Axis). IsSize (extent_of (cons_option a (filter_map axis (zip es xs))) d) (axis_extent d (e ∷ es) (y ∷ ys))) (sym (axis_none e x q))
        (subst (λ (b : Bool). IsSize (extent_of (filter_map axis (zip es xs)) d) (if b then Some y else axis_extent d es ys)) (sym sel) rest)
    by (Some k) q s rest =
        let sel : selects d e ≡ (k == d) = selects_is d e ∙ ap (λ o. option_map_or (λ k. k == d) o false) q in
        subst (λ (a : Option Axis). IsSize (extent_of (cons_option a (filter_map axis (zip es xs))) d) (axis_extent d (e ∷ es) (y ∷ ys))) (sym (axis_some e x k q))
        (subst (λ (b : Bool). IsSize (if k == d then Some x else extent_of (filter_map axis (zip es xs)) d) (if b then Some y else axis_extent d es ys)) (sym sel)
        (chosen_sizes (k == d) x y (extent_of (filter_map axis (zip es xs)) d) (axis_extent d es ys) s rest))
operand_sizes d (e ∷ es) [] (y ∷ ys) s = absurd s
operand_sizes d (e ∷ es) (x ∷ xs) [] s = absurd (short x xs s)

-- the axes of operands
abbrev pub axes_of : Types → List MapShape → List ValueId → List Axis
axes_of t ms vs = flat_map (λ (x : MapShape × ValueId). operand_axes x.0 (t (x.1).0)) (zip ms vs)

pub operands_sizes : (t : Types) (u : State) (d : ℕ) (ms : List MapShape) (vs : List ValueId) → Each (HasExtents t u) vs →
    IsSize (extent_of (axes_of t ms vs) d) (operand_extent d ms (values_in u.values vs))
operands_sizes t u d [] vs s = tt
operands_sizes t u d (m ∷ ms) [] s = tt
operands_sizes t u d (m ∷ ms) (v ∷ vs) s =
    subst (λ (o : Option Extent). IsSize o (operand_extent d (m ∷ ms) (values_in u.values (v ∷ vs)))) (sym (first_extent (operand_axes m (t v.0)) (axes_of t ms vs) d))
    (first_sizes (extent_of (operand_axes m (t v.0)) d) (extent_of (axes_of t ms vs) d) (axis_extent d m.results (grid_of (u.values v.0)).extents) (operand_extent d ms (values_in u.values vs))
    (operand_sizes d m.results (extents_of (t v.0)) (grid_of (u.values v.0)).extents s.0) (operands_sizes t u d ms vs s.1))

-- WHAT IS KNOWN OF A DIMENSION
-- the axis that gives it passes each test that all axes pass
pub found : (P : Axis → Bool) (all : List Axis) (d : ℕ) (x : Extent) → list_all P all ≡ true → extent_of all d ≡ Some x → P (d, x) ≡ true
found P [] d x h e = absurd (none-some x e)
found P (a ∷ all) d x h e = by (a.0 == d) refl (λ k. found P all d x (and_parts (P a) (list_all P all) h).1 k) e where
  by : (b : Bool) → (a.0 == d) ≡ b → (extent_of all d ≡ Some x → P (d, x) ≡ true) → (if b then Some a.1 else extent_of all d) ≡ Some x → P (d, x) ≡ true
  by true q rest e = (λ j. P (sym (eqb-true a.0 d q) j, sym (same_Some a.1 x e) j)) ∙ (and_parts (P a) (list_all P all) h).0
  by false q rest e = rest e

fixed_is : (x : Extent) (y : ℕ) → is_same_extent x x ≡ true → IsSized (x ∷ []) (y ∷ []) → x ≡ Fixed y
fixed_is (Fixed n) y h s = ap (λ k. Fixed k) (sym s.0)
fixed_is Any y h s = absurd cc

-- where axes that one dimension selects have equal extents, the extent of a dimension is its size
pub known_is : (all : List Axis) (d : ℕ) (o : Option ℕ) → axes_agree all ≡ true → is_some (extent_of all d) ≡ true → IsSize (extent_of all d) o → extent_of all d ≡ Some (Fixed (unwrap_or o 0))
known_is all d o agree there s = by (extent_of all d) refl o there s where
  by : (a : Option Extent) → extent_of all d ≡ a → (o : Option ℕ) → is_some a ≡ true → IsSize a o → a ≡ Some (Fixed (unwrap_or o 0))
  by None e o h s = absurd cc
  by (Some x) e None h s = absurd s
  by (Some x) e (Some y) h s =
      let same : has_extent (extent_of all d) x ≡ true = found (λ (a : Axis). has_extent (extent_of all a.0) a.1) all d x agree e in
      ap (λ z. Some z) (fixed_is x y (sym (ap (λ o. has_extent o x) e) ∙ same) s)
