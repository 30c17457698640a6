-- The rules V5 to V8 of a generic, from what its parts answer.
use Rattle.std.proofs.Common.{◌≡◌, ℕ, ◌&&◌, true, false, List, length, Option, Some, None, Result, Ok, Err, ap, sym, ◌∙◌}
use Rattle.std.specs.Prelude.{not, IfOk}
use Rattle.std.specs.List.{list_all, zip}
use Rattle.std.specs.BTreeMap.{BTreeMap}
use Rattle.std.specs.BTreeSet.{BTreeSet}
use Rattle.mlir_base.specs.declared.memory.Memory.{Memory}
use Rattle.affine_maps.specs.Shape.{MapShape}
use Rattle.affine_maps.specs.Permutation.{is_projected_permutation, is_among}
use Rattle.mlir_ir.specs.declared.tree.Extent.{Extent}
use Rattle.mlir_ir.specs.declared.tree.Iter.{Iter}
use Rattle.mlir_ir.specs.declared.tree.Ty.{Ty}
use Rattle.mlir_ir.specs.declared.tree.ValueId.{ValueId}
use Rattle.mlir_verify.specs.declared.rule.Rule.{Rule}
use Rattle.mlir_verify.specs.declared.rule.Rule.TheVariants.{V5}
use Rattle.mlir_verify.specs.Place.{Types}
use Rattle.mlir_verify.specs.Maps.{Axis, axes, extent_of, fits_operand, fit_operands, cover_dimensions, match_output, on_output, output_map, output_dimensions}
use Rattle.mlir_verify.specs.Extents.{axes_agree, keeps_output}
use Rattle.mlir_verify.specs.Windows.{inputs_stay_in}
use Rattle.mlir_verify.specs.Scope.{IsSet}
use Rattle.mlir_verify.specs.Stages.{FitsOperands, IsPermuted, broken_points, broken_generic, lowest_loop_rule, extent_in, is_in}
use Rattle.mlir_verify.proofs.Adding.{set_at}

-- where inputs and output fit, the output's permutation decides
fit_by : (t : Types) (maps : List MapShape) (iterators : List Iter) (ins : List ValueId) (outs : ValueId) (m : MapShape) → output_map maps ≡ Some m →
    list_all (λ x. fits_operand (length iterators) x.1 (t (x.0).0)) (zip ins maps) ≡ true → fits_operand (length iterators) m (t outs.0) ≡ true →
    fit_operands t maps iterators ins outs ≡ is_projected_permutation m
unfolding fit_operands
fit_by t maps iterators ins outs m e a b =
    (λ j. a j && on_output (e j) (λ m. fits_operand (length iterators) m (t outs.0) && is_projected_permutation m)) ∙ ap (λ c. c && is_projected_permutation m) b

pub permuted_fits : (r : Result (Option (BTreeSet ℕ)) Memory) (t : Types) (maps : List MapShape) (iterators : List Iter) (ins : List ValueId) (outs : ValueId) (m : MapShape) → output_map maps ≡ Some m →
    list_all (λ x. fits_operand (length iterators) x.1 (t (x.0).0)) (zip ins maps) ≡ true → fits_operand (length iterators) m (t outs.0) ≡ true →
    IfOk r (λ found. IsPermuted found m) → IfOk r (λ found. FitsOperands found t maps iterators ins outs)
permuted_fits (Ok None) t maps iterators ins outs m e a b p = fit_by t maps iterators ins outs m e a b ∙ p
permuted_fits (Ok (Some s)) t maps iterators ins outs m e a b p =
    (fit_by t maps iterators ins outs m e a b ∙ p.0, set_at s _ _ (ap output_dimensions (sym e)) p.1)
permuted_fits (Err x) t maps iterators ins outs m e a b p = tt

-- the extents and dimensions that were looked up are those of the operation's axes
pub points_are : (m : BTreeMap ℕ Extent) (s : BTreeSet ℕ) (all : List Axis) (t : Types) (results : List (ValueId × Ty)) (maps : List MapShape) (iterators : List Iter) (ins : List ValueId) (outs : ValueId) →
    ((d : ℕ) → extent_in m d ≡ extent_of all d) → IsSet s (output_dimensions (output_map maps)) → all ≡ axes t maps ins outs →
    broken_points (extent_in m) (is_in s) all t results maps iterators ins outs
    ≡ broken_points (extent_of (axes t maps ins outs)) (λ d. is_among d (output_dimensions (output_map maps))) (axes t maps ins outs) t results maps iterators ins outs
points_are m s all t results maps iterators ins outs h k e =
    λ j. broken_points (λ d. (h d ∙ ap (λ (x : List Axis). extent_of x d) e) j) (λ d. k d j) (e j) t results maps iterators ins outs

pub generic_fits : (t : Types) (results : List (ValueId × Ty)) (maps : List MapShape) (iterators : List Iter) (ins : List ValueId) (outs : ValueId) →
    fit_operands t maps iterators ins outs ≡ true →
    broken_points (extent_of (axes t maps ins outs)) (λ d. is_among d (output_dimensions (output_map maps))) (axes t maps ins outs) t results maps iterators ins outs
    ≡ broken_generic t results maps iterators ins outs
unfolding broken_points broken_generic cover_dimensions match_output
generic_fits t results maps iterators ins outs f =
    let all = axes t maps ins outs in
    sym (ap (λ x. lowest_loop_rule (not (x && cover_dimensions t maps iterators ins outs)) (not (match_output maps iterators)) (not (axes_agree all && keeps_output t results outs)) (not (inputs_stay_in t (extent_of all) maps iterators ins))) f)

pub generic_misfits : (t : Types) (results : List (ValueId × Ty)) (maps : List MapShape) (iterators : List Iter) (ins : List ValueId) (outs : ValueId) →
    fit_operands t maps iterators ins outs ≡ false → Some V5 ≡ broken_generic t results maps iterators ins outs
unfolding broken_generic
generic_misfits t results maps iterators ins outs f =
    let all = axes t maps ins outs in
    sym (ap (λ x. lowest_loop_rule (not (x && cover_dimensions t maps iterators ins outs)) (not (match_output maps iterators)) (not (axes_agree all && keeps_output t results outs)) (not (inputs_stay_in t (extent_of all) maps iterators ins))) f)

pub box_fits : (r : Result (Option Rule) Memory) (t : Types) (results : List (ValueId × Ty)) (maps : List MapShape) (iterators : List Iter) (ins : List ValueId) (outs : ValueId) (s : BTreeSet ℕ) →
    FitsOperands (Some s) t maps iterators ins outs →
    IfOk r (λ x. IsSet s (output_dimensions (output_map maps)) →
    x ≡ broken_points (extent_of (axes t maps ins outs)) (λ d. is_among d (output_dimensions (output_map maps))) (axes t maps ins outs) t results maps iterators ins outs) →
    IfOk r (λ x. x ≡ broken_generic t results maps iterators ins outs)
box_fits (Ok x) t results maps iterators ins outs s f h = h f.1 ∙ generic_fits t results maps iterators ins outs f.0
box_fits (Err e) t results maps iterators ins outs s f h = tt
