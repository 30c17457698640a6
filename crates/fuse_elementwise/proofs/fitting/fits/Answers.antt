use Rattle.std.proofs.Common.{◌&&◌, ◌+◌, length, ap, ◌∙◌}
use Rattle.std.specs.Prelude.{nat_le}
use Rattle.affine_maps.specs.Shape.{MapShape}
use Rattle.mlir_edits.specs.Places.{scope_before}
use Rattle.mlir_verify.specs.Place.{type_among}
use Rattle.tile_bridge.specs.Instances.{input_maps}
use Rattle.fuse_forms.specs.Forms.{structured}
use Rattle.fuse_elementwise.specs.Fitting.{has_own_axes, has_few_steps}
use Rattle.fuse_elementwise.proofs.Fits.{dims_listed, fits_by}
use Rattle.fuse_elementwise.proofs.fitting.fits.Goals as goal

pub axes_fit-requires-clause-dims : goal.axes_fit-requires-clause-dims
axes_fit-requires-clause-dims c =
    dims_listed c.args.ds.now c.args.m.now c.in_ok-inner.inner (input_maps (structured c.args.p.now)) c.in_ok-inner.ensures c.requires.dims

pub returns : goal.returns
returns c =
    let t = type_among (scope_before c.args.f.now c.args.position) in
    let p = structured c.args.p.now in
    let q = structured c.args.c.now in
    let k = c.args.k in
    let few = c.in_ok-few.ensures ∙ ap (has_few_steps p q k) (c.as_slice.ensures ∙ c.results.ensures.value) in
    c.all_fit.ensures
    ∙ (λ j. c.in_ok-fit.ensures j && (nat_le (length p.ins + length q.ins) 64 && few j))
    ∙ ap (λ (m : MapShape). has_own_axes t p q k m && (nat_le (length p.ins + length q.ins) 64 && has_few_steps p q k m.results)) c.in_ok-inner.ensures
    ∙ fits_by t p q k c.args.m.now c.args.ds.now c.requires
