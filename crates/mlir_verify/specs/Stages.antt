-- What the parts of the verifier answer.
use Rattle.std.specs.Prelude.{◌≡◌, ℕ, ◌&&◌, ◌||◌, not, is_some, Bool, true, false, List, Option, Some, None, if◌then◌else◌}
use Rattle.std.specs.List.{list_all, enumerate_from}
use Rattle.std.specs.BTreeMap as tree
use Rattle.std.specs.BTreeMap.{BTreeMap}
use Rattle.std.specs.BTreeSet as sorted
use Rattle.std.specs.BTreeSet.{BTreeSet}
use Rattle.std.specs.Ordering.{nat_cmp}
use Rattle.affine_maps.specs.Shape.{MapShape}
use Rattle.affine_maps.specs.Permutation.{dimensions_of, is_projected_permutation}
use Rattle.mlir_ir.specs.Count.{first}
use Rattle.mlir_ir.specs.Shape.{FuncShape}
use Rattle.mlir_ir.specs.declared.tree.Extent.{Extent}
use Rattle.mlir_ir.specs.declared.tree.Iter.{Iter}
use Rattle.mlir_ir.specs.declared.tree.Op.{Op}
use Rattle.mlir_ir.specs.declared.tree.OpKind.{OpKind}
use Rattle.mlir_ir.specs.declared.tree.Ty.{Ty}
use Rattle.mlir_ir.specs.declared.tree.ValueId.{ValueId}
use Rattle.mlir_verify.specs.declared.rule.Rule.{Rule}
use Rattle.mlir_verify.specs.declared.rule.Rule.TheVariants.{V2, V3, V4, V5, V6, V7, V8, V14}
use Rattle.mlir_verify.specs.Place.{Types}
use Rattle.mlir_verify.specs.Built.{is_built}
use Rattle.mlir_verify.specs.Constants.{Constants}
use Rattle.mlir_verify.specs.Types.{is_typed}
use Rattle.mlir_verify.specs.Ends.{is_return, has_fixed_signature}
use Rattle.mlir_verify.specs.Maps.{Axis, axes, extent_of, output_map, output_dimensions, fit_operands, cover_dimensions, match_output, is_iterator, breaks_maps, breaks_iterators}
use Rattle.mlir_verify.specs.Extents.{axes_agree, are_same_extents, has_extent, keeps_output, breaks_extents}
use Rattle.mlir_verify.specs.Windows.{Extents, inputs_stay_in, breaks_windows}
use Rattle.mlir_verify.specs.Limits.{is_small_op, has_small_signature}
use Rattle.mlir_verify.specs.Scope.{IsSet}

-- the dimensions of a projected permutation, or none for another map
abbrev pub IsPermuted : Option (BTreeSet ℕ) → MapShape → Type 0
IsPermuted None m = is_projected_permutation m ≡ false
IsPermuted (Some s) m = (is_projected_permutation m ≡ true) × IsSet s (dimensions_of m.results)

abbrev pub is_in : BTreeSet ℕ → ℕ → Bool
is_in s d = sorted.contains nat_cmp s d

abbrev pub extent_in : BTreeMap ℕ Extent → ℕ → Option Extent
extent_in m d = tree.get nat_cmp m d

-- the rest of the extents, where a first one was the same
abbrev pub are_same_after : List Extent → Option (List Extent) → Bool
are_same_after xs None = false
are_same_after xs (Some ys) = are_same_extents xs ys

abbrev pub lowest_loop_rule : Bool → Bool → Bool → Bool → Option Rule
lowest_loop_rule maps iterators extents windows =
    if maps then Some V5 else (if iterators then Some V6 else (if extents then Some V7 else (if windows then Some V8 else None)))

-- the dimensions of the output's map, or none where the maps don't fit their operands
abbrev pub FitsOperands : Option (BTreeSet ℕ) → Types → List MapShape → List Iter → List ValueId → ValueId → Type 0
FitsOperands None t maps iterators ins outs = fit_operands t maps iterators ins outs ≡ false
FitsOperands (Some s) t maps iterators ins outs = (fit_operands t maps iterators ins outs ≡ true) × IsSet s (output_dimensions (output_map maps))

-- the lowest of V5 to V8 that a generic breaks whose maps fit their operands, by the extent of each dimension, by which
-- dimensions the output has, and by all axes that one dimension alone selects
unfoldable pub broken_points : Extents → (ℕ → Bool) → List Axis → Types → List (ValueId × Ty) → List MapShape → List Iter → List ValueId → ValueId → Option Rule
broken_points extents in_output all t results maps iterators ins outs =
    lowest_loop_rule (not (list_all (λ i. is_some (extents i.0)) (enumerate_from 0 iterators)))
    (not (list_all (λ i. is_iterator i.1 (in_output i.0)) (enumerate_from 0 iterators)))
    (not (list_all (λ a. has_extent (extents a.0) a.1) all && keeps_output t results outs)) (not (inputs_stay_in t extents maps iterators ins))

-- the lowest of V5 to V8 that a generic breaks
unfoldable pub broken_generic : Types → List (ValueId × Ty) → List MapShape → List Iter → List ValueId → ValueId → Option Rule
broken_generic t results maps iterators ins outs =
    lowest_loop_rule (not (fit_operands t maps iterators ins outs && cover_dimensions t maps iterators ins outs)) (not (match_output maps iterators))
    (not (axes_agree (axes t maps ins outs) && keeps_output t results outs)) (not (inputs_stay_in t (extent_of (axes t maps ins outs)) maps iterators ins))

-- the lowest of V5 to V8 that an operation breaks
unfoldable pub broken_loops : Types → List Ty → List (ValueId × Ty) → OpKind → Option Rule
broken_loops t wanted results kind =
    lowest_loop_rule (breaks_maps t kind) (breaks_iterators kind) (breaks_extents t wanted results kind) (breaks_windows t kind)

abbrev pub lowest_type_rule : Bool → Bool → Bool → Option Rule → Option Rule
lowest_type_rule types end signature later = if types then Some V2 else (if end then Some V3 else (if signature then Some V4 else later))

abbrev pub is_past_limits : Bool → FuncShape → Op → Bool
is_past_limits first_ f o = not (is_small_op o) || (first_ && not (has_small_signature f))

-- the lowest of V2 to V14 that an operation breaks, which is the first or the last of its function as told
unfoldable pub broken_below : Bool → Bool → Types → Constants → FuncShape → Op → Option Rule
broken_below first_ last_ t constants f o =
    lowest_type_rule (not (is_built o && is_typed t constants f.results o.results o.kind)) (if is_return o.kind then not last_ else last_)
    (first_ && not (has_fixed_signature f)) (first (broken_loops t f.results o.results o.kind) (if is_past_limits first_ f o then Some V14 else None))
