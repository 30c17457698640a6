use Rattle.std.proofs.Common.{subst}
use Rattle.std.specs.Prelude.{IfOk}
use Rattle.affine_maps.specs.Shape.{MapShape}
use Rattle.named_forms.specs.Fit.{IsFit}
use Rattle.tile_bridge.specs.Instances.{input_maps}
use Rattle.fuse_forms.specs.Forms.{fused_by, structured, GenericFits}
use Rattle.fuse_forms.proofs.Composed.{dims_there}
use Rattle.fuse_forms.proofs.forming.fused.Goals as goal

pub fused_by-requires : goal.fused_by-requires
fused_by-requires c =
    dims_there c.args.ds.now c.args.m.now c.in_ok-inner.inner (input_maps (structured c.args.p.now)) c.in_ok-inner.ensures c.requires

pub returns : goal.returns
returns c =
    subst (λ (m : MapShape). IfOk c.fused_by.result (λ r. IsFit GenericFits r (fused_by (structured c.args.p.now) (structured c.args.c.now) c.args.k m)))
    c.in_ok-inner.ensures c.fused_by.ensures
