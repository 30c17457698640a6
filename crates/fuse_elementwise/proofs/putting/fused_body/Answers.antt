use Rattle.std.proofs.Common.{List, length, ap, ◌∙◌, arith}
use Rattle.mlir_ir.specs.declared.tree.Op.{Op}
use Rattle.fuse_elementwise.proofs.Bodies.{kind_long}
use Rattle.fuse_elementwise.proofs.putting.fused_body.Goals as goal

pub remove-requires : goal.remove-requires
remove-requires c =
    let long = kind_long c.args.consumer c.args.kind c.args.body in
    let same = ap (λ (l : List Op). length l) (c.into_vec-ops.ensures ∙ c.in_ok-body.ensures) ∙ long in
    omega (arith, same, c.requires.producer, c.requires.consumer)
