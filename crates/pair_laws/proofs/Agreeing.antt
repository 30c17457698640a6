-- Axes that agree with extents known of the dimensions agree among themselves, and tell the same extents.
use Rattle.std.proofs.Common.{◌≡◌, ℕ, ◌==◌, ◌&&◌, Bool, true, false, List, [], ◌∷◌, ◌++◌, Option, Some, None, refl, ap, sym, ◌∙◌, append_assoc, eqb-true, eq-eqb}
use Rattle.std.specs.Prelude.{is_some, if◌then◌else◌}
use Rattle.std.specs.List.{list_all}
use Rattle.std.proofs.lemmas.Bool.{and_parts}
use Rattle.mlir_ir.specs.declared.tree.Extent.{Extent}
use Rattle.mlir_ir.specs.declared.tree.Extent.TheVariants.{Fixed, Any}
use Rattle.mlir_verify.specs.Maps.{Axis, extent_of}
use Rattle.mlir_verify.specs.Extents.{has_extent, axes_agree}
use Rattle.tile_bridge.proofs.Axes.{found}
use Rattle.pair_laws.proofs.Boxes.{all_left}

same_two : (o : Option Extent) (x y : Extent) → has_extent o x ≡ true → has_extent o y ≡ true → has_extent (Some x) y ≡ true
same_two (Some (Fixed n)) (Fixed a) (Fixed b) h k = eq-eqb a b (sym (eqb-true n a h) ∙ eqb-true n b k)
same_two (Some (Fixed n)) (Fixed a) Any h k = absurd cc
same_two (Some (Fixed n)) Any y h k = absurd cc
same_two (Some Any) x y h k = absurd cc
same_two None x y h k = absurd cc

same_fixed : (n : ℕ) (x : Extent) → has_extent (Some (Fixed n)) x ≡ true → x ≡ Fixed n
same_fixed n (Fixed m) h = ap (λ k. Fixed k) (sym (eqb-true n m h))
same_fixed n Any h = absurd cc

there_in : (xs ys : List Axis) (a : Axis) → (e : Extent) × (extent_of (xs ++ (a ∷ ys)) a.0 ≡ Some e)
there_in [] ys a = (a.1, (λ j. if eq-eqb a.0 a.0 refl j then Some a.1 else extent_of ys a.0))
there_in (x ∷ xs) ys a = by (x.0 == a.0) (there_in xs ys a) where
  by : (b : Bool) → (e : Extent) × (extent_of (xs ++ (a ∷ ys)) a.0 ≡ Some e) → (e : Extent) × ((if b then Some x.1 else extent_of (xs ++ (a ∷ ys)) a.0) ≡ Some e)
  by true r = (x.1, refl)
  by false r = r

module _ (known : ℕ → Option Extent) where
  abbrev Fits : Axis → Bool
  Fits a = has_extent (known a.0) a.1

  tested : (xs ys : List Axis) → list_all Fits (xs ++ ys) ≡ true → list_all (λ (a : Axis). has_extent (extent_of (xs ++ ys) a.0) a.1) ys ≡ true
  tested xs [] h = refl
  tested xs (a ∷ ys) h =
      let r = there_in xs ys a in
      let own : Fits a ≡ true = (and_parts (Fits a) (list_all Fits ys) (all_left Fits xs (a ∷ ys) h).1).0 in
      let one : has_extent (extent_of (xs ++ (a ∷ ys)) a.0) a.1 ≡ true =
      ap (λ o. has_extent o a.1) r.1 ∙ same_two (known a.0) r.0 a.1 (found Fits (xs ++ (a ∷ ys)) a.0 r.0 h r.1) own in
      let e = append_assoc xs (a ∷ []) ys in
      let rest : list_all (λ (a' : Axis). has_extent (extent_of (xs ++ (a ∷ ys)) a'.0) a'.1) ys ≡ true =
      (λ j. list_all (λ (a' : Axis). has_extent (extent_of (sym e j) a'.0) a'.1) ys) ∙ tested (xs ++ a ∷ []) ys (ap (list_all Fits) e ∙ h) in
      λ j. one j && rest j

  pub agree_by : (all : List Axis) → list_all Fits all ≡ true → axes_agree all ≡ true
  agree_by all h = tested [] all h

  pub extent_by : (all : List Axis) (d n : ℕ) → list_all Fits all ≡ true → known d ≡ Some (Fixed n) → is_some (extent_of all d) ≡ true → extent_of all d ≡ Some (Fixed n)
  extent_by all d n h is there = by (extent_of all d) refl there where
    by : (o : Option Extent) → extent_of all d ≡ o → is_some o ≡ true → o ≡ Some (Fixed n)
    by None q k = absurd cc
    by (Some x) q k = ap (λ e. Some e) (same_fixed n x (ap (λ o. has_extent o x) (sym is) ∙ found Fits all d x h q))
