use Rattle.std.proofs.Common.{List, ◌++◌, ap, ◌∙◌, arith, Option}
use Rattle.affine_maps.specs.Shape.{MapShape}
use Rattle.mlir_ir.specs.declared.tree.Ty.{Ty}
use Rattle.mlir_ir.specs.declared.tree.ValueId.{ValueId}
use Rattle.mlir_verify.specs.Maps.{Axis, operand_axes}
use Rattle.mlir_verify.specs.Scope.{types_in}
use Rattle.mlir_verify.proofs.Walks.{pairs_go}
use Rattle.mlir_verify.proofs.axes.push_input_axes.Goals as goal

pub loop-m-preserved : goal.loop-m-preserved
loop-m-preserved c =
    let d : ValueId = record { 0 = 0 } in
    let h : MapShape × ValueId → List Axis = λ x. operand_axes x.0 (types_in c.args.scope.now (x.1).0) in
    let p = c.in-Ok.ensures ∙ ap (λ (ty : Option Ty). c.loop-m.axes.items ++ operand_axes c.m-item.result ty) c.type_of.ensures in
    pairs_go h c.loop-m.axes.items c.push_operand_axes.new.axes.items _ c.args.maps.now c.loop-m.m-index c.m-item.result c.loop-m.left.now d (omega arith) c.m-item.is (omega arith) p c.loop-m.invariant
