use Rattle.std.proofs.Common.{◌≡◌, ℕ, List, ap, sym, ◌∙◌}
use Rattle.mlir_verify.specs.Maps.{Axis, axes, extent_of}
use Rattle.mlir_verify.specs.Scope.{types_in}
use Rattle.mlir_verify.proofs.Generics.{points_are}
use Rattle.mlir_verify.proofs.structured.broken_box.Goals as goal

pub returns-in-Ok-extents_by_dimension : goal.returns-in-Ok-extents_by_dimension
returns-in-Ok-extents_by_dimension c = λ s.
    let t = types_in c.args.scope.now in
    let whole = axes t c.args.maps.now c.args.ins.now c.args.outs in
    let m = c.in-Ok-extents_by_dimension.extents in
    let e : c.as_slice.result.now ≡ whole = c.as_slice.ensures.value ∙ c.in-Ok.ensures in
    let f : c.as_slice-in-Ok-extents_by_dimension.result.now ≡ whole = c.as_slice-in-Ok-extents_by_dimension.ensures.value ∙ c.in-Ok.ensures in
    let h = λ (d : ℕ). c.in-Ok-extents_by_dimension.ensures d ∙ ap (λ (a : List Axis). extent_of a d) (e ∙ sym f) in
    c.broken_points.ensures
    ∙ points_are m c.args.output.now c.as_slice-in-Ok-extents_by_dimension.result.now t c.args.results.now c.args.maps.now c.args.iterators.now c.args.ins.now c.args.outs h s f
