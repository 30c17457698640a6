use Rattle.std.proofs.Common.{pos, get_or, ap, ◌∙◌}
use Rattle.affine_maps.specs.declared.map.Expr.{Expr}
use Rattle.mlir_ir.specs.declared.tree.Idx.TheVariants.{Literal}
use Rattle.operand_slices.specs.Slices.{axis_slice}
use Rattle.operand_slices.proofs.Pairs.{pair_step, all_pairs}
use Rattle.operand_slices.proofs.slicing.axes_slice.Goals as goal

pub loop-k-preserved : goal.loop-k-preserved
loop-k-preserved c =
    pair_step (axis_slice c.args.offsets.now c.args.sizes.now c.args.tiled.now) c.args.exprs.now c.args.extents.now c.loop-k.k
    c.index-exprs-k.result (Literal (pos 0)) c.loop-k.all c.push.new.self c.in_ok-axis.axis
    c.loop-k-test.true c.requires.extents c.loop-k.invariant c.in_ok-push.ensures.ok
    (c.in_ok-axis.ensures
    ∙ ap (λ (e : Expr). axis_slice c.args.offsets.now c.args.sizes.now c.args.tiled.now (
      e,
      get_or c.args.extents.now c.loop-k.k
          (Literal (pos 0)),
    )) c.index-exprs-k.is)

pub returns : goal.returns
returns c =
    c.loop-k.invariant ∙ all_pairs (axis_slice c.args.offsets.now c.args.sizes.now c.args.tiled.now) c.args.exprs.now c.args.extents.now
    c.loop-k.k c.loop-k-test.false
