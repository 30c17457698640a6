use Rattle.std.proofs.Common.{List, ◌++◌, map, ap, ◌∙◌, arith}
use Rattle.std.specs.List.{filter_map, zip}
use Rattle.affine_maps.specs.Compose.{composed, composed_expr}
use Rattle.affine_maps.specs.Shape.{MapShape}
use Rattle.mlir_edits.specs.Places.{scope_before}
use Rattle.mlir_ir.specs.declared.tree.Extent.{Extent}
use Rattle.mlir_ir.specs.declared.tree.ValueId.{ValueId}
use Rattle.mlir_verify.specs.Maps.{Axis, axis, operand_axes}
use Rattle.mlir_verify.specs.Place.{type_among}
use Rattle.mlir_verify.specs.Tensors.{extents_of}
use Rattle.mlir_verify.proofs.Walks.{pairs_go}
use Rattle.fuse_elementwise.proofs.axes.push_composed_inputs.Goals as goal

pub loop-m-preserved : goal.loop-m-preserved
loop-m-preserved c =
    let d : ValueId = record { 0 = 0 } in
    let inner = c.args.inner.now in
    let h : MapShape × ValueId → List Axis = λ x. operand_axes (composed x.0 inner) (type_among (scope_before c.args.f.now c.args.position) (x.1).0) in
    let p = c.in-Ok.ensures
    ∙ ap (λ (es : List Extent). c.loop-m.axes.items ++ filter_map axis (zip (map (composed_expr inner.dims inner.results) c.m-item.result.results) es))
    (c.extents_of-extents.ensures ∙ ap extents_of c.type_before.ensures) in
    pairs_go h c.loop-m.axes.items c.push_composed_axes.new.axes.items _ c.args.maps.now c.loop-m.m-index c.m-item.result c.loop-m.left.now d (omega arith) c.m-item.is (omega arith) p c.loop-m.invariant
