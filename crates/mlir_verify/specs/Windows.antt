-- V8: an element that a map's result selects lies in its operand, where the result isn't one dimension alone (Linalg,
-- "linalg.generic"). No number of the map is negative (V5), so its value is greatest at the greatest coordinates.
use Rattle.std.specs.Prelude.{ℕ, ◌||◌, ◌==◌, not, is_some, int_lt, Bool, false, ℤ, pos, negsuc, ◌+ℤ◌, ◌-ℤ◌, List, Option, Some}
use Rattle.std.specs.List.{list_all, list_any, zip, enumerate_from}
use Rattle.affine_maps.specs.Shape.{MapShape}
use Rattle.affine_maps.specs.Permutation.{dimension_of}
use Rattle.affine_maps.specs.Value.{weighted_sum}
use Rattle.affine_maps.specs.declared.map.Expr.{Expr}
use Rattle.mlir_ir.specs.declared.tree.Extent.{Extent}
use Rattle.mlir_ir.specs.declared.tree.Extent.TheVariants.{Fixed, Any}
use Rattle.mlir_ir.specs.declared.tree.Iter.{Iter}
use Rattle.mlir_ir.specs.declared.tree.OpKind.{OpKind, Generic}
use Rattle.mlir_ir.specs.declared.tree.Ty.{Ty}
use Rattle.mlir_ir.specs.declared.tree.ValueId.{ValueId}
use Rattle.mlir_verify.specs.Place.{Types}
use Rattle.mlir_verify.specs.Tensors.{extents_of}
use Rattle.mlir_verify.specs.Maps.{axes, extent_of}

-- the extents of an operation's dimensions
abbrev pub Extents : Type 0
Extents = ℕ → Option Extent

-- the greatest coordinate along a dimension; -1 where there is none
abbrev pub greatest : Option Extent → ℤ
greatest (Some (Fixed n)) = pos n -ℤ pos 1
greatest _ = negsuc 0

-- the value of a result at the greatest coordinates
abbrev pub greatest_value : Extents → Expr → ℤ
greatest_value extents e = e.constant +ℤ weighted_sum e.terms (λ d. greatest (extents d))

abbrev pub is_below : ℤ → Extent → Bool
is_below z (Fixed n) = int_lt z (pos n)
is_below z Any = false

-- a result and the axis that it selects from
abbrev pub stays_in : Extents → Expr × Extent → Bool
stays_in extents x = is_some (dimension_of x.0) || is_below (greatest_value extents x.0) x.1

abbrev pub operand_stays_in : Extents → MapShape → Option Ty → Bool
operand_stays_in extents m ty = list_all (stays_in extents) (zip m.results (extents_of ty))

abbrev pub is_zero : Option Extent → Bool
is_zero (Some (Fixed n)) = n == 0
is_zero _ = false

-- an operation without points reads nothing
abbrev pub has_no_points : Extents → List Iter → Bool
has_no_points extents iterators = list_any (λ i. is_zero (extents i.0)) (enumerate_from 0 iterators)

-- of the inputs alone, since each result of the output's map is one dimension alone (V5)
unfoldable pub inputs_stay_in : Types → Extents → List MapShape → List Iter → List ValueId → Bool
inputs_stay_in t extents maps iterators ins =
    has_no_points extents iterators || list_all (λ x. operand_stays_in extents x.0 (t (x.1).0)) (zip maps ins)

unfoldable pub breaks_windows : Types → OpKind → Bool
breaks_windows t (Generic maps iterators ins outs captured payload) = not (inputs_stay_in t (extent_of (axes t maps ins outs)) maps iterators ins)
breaks_windows t _ = false
