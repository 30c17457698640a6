use Rattle.std.proofs.Common.{◌++◌, Option, List, ap, ◌∙◌}
use Rattle.std.specs.List.{flat_map, zip}
use Rattle.affine_maps.specs.Shape.{MapShape}
use Rattle.mlir_edits.specs.Places.{scope_before}
use Rattle.mlir_verify.specs.Maps.{output_axes}
use Rattle.mlir_verify.specs.Place.{type_among}
use Rattle.fuse_forms.specs.Forms.{structured}
use Rattle.fuse_elementwise.proofs.Splicing.{added, one, two}
use Rattle.fuse_elementwise.proofs.fitting.push_fused.Goals as goal

pub returns : goal.returns
returns c =
    let t = type_among (scope_before c.args.f.now c.args.position) in
    let p = structured c.args.p.now in
    let q = structured c.args.c.now in
    let inner = c.args.inner.now in
    added t p q c.args.k inner c.requires.counted c.args.axes.now.items _ _ _ _
    c.in_ok-push_inputs.ensures
    (c.in_ok-push_composed_inputs.ensures
    ∙ ap (λ (ms : List MapShape). c.push_inputs.new.axes.items ++ flat_map (two t p q c.args.k inner c.requires.counted) (zip ms p.ins)) c.input_maps.ensures)
    (c.in_ok-push_inputs-2.ensures
    ∙ (λ j. c.push_composed_inputs.new.axes.items ++ flat_map (one t p q c.args.k inner c.requires.counted) (zip (c.behind.ensures j) (c.behind-2.ensures j))))
    (c.in_ok-push_output.ensures ∙ ap (λ (m : Option MapShape). c.push_inputs-2.new.axes.items ++ output_axes m (t q.outs.0)) c.last.ensures.value)
