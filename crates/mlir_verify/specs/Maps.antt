-- V5: the maps of a structured operation fit its dimensions and operands. V6: its parallel dimensions are those of the
-- output's map (Linalg, "Structured operations").
use Rattle.std.specs.Prelude.{ℕ, ◌==◌, ◌&&◌, not, is_some, int_le, Bool, false, pos, List, [], ◌∷◌, ◌++◌, length, Option, Some, None, slice_get, ◌-◌, if◌then◌else◌}
use Rattle.std.specs.List.{list_all, zip, flat_map, filter_map, enumerate_from}
use Rattle.affine_maps.specs.Shape.{MapShape}
use Rattle.affine_maps.specs.Permutation.{dimension_of, dimensions_of, is_projected_permutation, is_among}
use Rattle.affine_maps.specs.declared.map.Expr.{Expr}
use Rattle.mlir_ir.specs.declared.tree.Extent.{Extent}
use Rattle.mlir_ir.specs.declared.tree.Iter.{Iter}
use Rattle.mlir_ir.specs.declared.tree.Iter.TheVariants.{Parallel, Reduction}
use Rattle.mlir_ir.specs.declared.tree.OpKind.{OpKind, Generic}
use Rattle.mlir_ir.specs.declared.tree.Ty.{Ty}
use Rattle.mlir_ir.specs.declared.tree.ValueId.{ValueId}
use Rattle.mlir_verify.specs.Place.{Types}
use Rattle.mlir_verify.specs.Tensors.{extents_of}

-- the last map is the output's
abbrev pub output_map : List MapShape → Option MapShape
output_map maps = slice_get maps (length maps - 1)

abbrev pub is_not_negative : Expr → Bool
is_not_negative e = int_le (pos 0) e.constant && list_all (λ t. int_le (pos 0) t.1) e.terms

-- one dimension for each iterator, one result for each axis, and no negative number; a scalar has no axis
abbrev pub fits_operand : ℕ → MapShape → Option Ty → Bool
fits_operand dims m ty = (m.dims == dims && length m.results == length (extents_of ty)) && list_all is_not_negative m.results

-- an axis of an operand that one dimension alone selects: that dimension, and the axis's extent
abbrev pub Axis : Type 0
Axis = ℕ × Extent

abbrev pub axis : Expr × Extent → Option Axis
axis x = elim (dimension_of x.0) as (λ _. Option Axis) [ None ↦ None | Some d ↦ Some (d, x.1) ]

abbrev pub operand_axes : MapShape → Option Ty → List Axis
operand_axes m ty = filter_map axis (zip m.results (extents_of ty))

abbrev pub output_axes : Option MapShape → Option Ty → List Axis
output_axes None ty = []
output_axes (Some m) ty = operand_axes m ty

-- the axes of all operands, the inputs' first
abbrev pub axes : Types → List MapShape → List ValueId → ValueId → List Axis
axes t maps ins outs = flat_map (λ x. operand_axes x.0 (t (x.1).0)) (zip maps ins) ++ output_axes (output_map maps) (t outs.0)

-- the extent of a dimension is that of the first axis that it selects
abbrev pub extent_of : List Axis → ℕ → Option Extent
extent_of [] d = None
extent_of (a ∷ others) d = if a.0 == d then Some a.1 else extent_of others d

abbrev pub on_output : Option MapShape → (MapShape → Bool) → Bool
on_output None test = false
on_output (Some m) test = test m

unfoldable pub fit_operands : Types → List MapShape → List Iter → List ValueId → ValueId → Bool
fit_operands t maps iterators ins outs =
    list_all (λ x. fits_operand (length iterators) x.1 (t (x.0).0)) (zip ins maps)
    && on_output (output_map maps) (λ m. fits_operand (length iterators) m (t outs.0) && is_projected_permutation m)

-- each dimension stands alone in some result
unfoldable pub cover_dimensions : Types → List MapShape → List Iter → List ValueId → ValueId → Bool
cover_dimensions t maps iterators ins outs = list_all (λ i. is_some (extent_of (axes t maps ins outs) i.0)) (enumerate_from 0 iterators)

unfoldable pub breaks_maps : Types → OpKind → Bool
breaks_maps t (Generic maps iterators ins outs captured payload) = not (fit_operands t maps iterators ins outs && cover_dimensions t maps iterators ins outs)
breaks_maps t _ = false

-- V6
abbrev pub is_iterator : Iter → Bool → Bool
is_iterator Parallel in_output = in_output
is_iterator Reduction in_output = not in_output

abbrev pub output_dimensions : Option MapShape → List ℕ
output_dimensions None = []
output_dimensions (Some m) = dimensions_of m.results

-- a dimension is parallel exactly where the output's map has it
unfoldable pub match_output : List MapShape → List Iter → Bool
match_output maps iterators = list_all (λ i. is_iterator i.1 (is_among i.0 (output_dimensions (output_map maps)))) (enumerate_from 0 iterators)

unfoldable pub breaks_iterators : OpKind → Bool
breaks_iterators (Generic maps iterators ins outs captured payload) = not (match_output maps iterators)
breaks_iterators _ = false
