use Rattle.std.proofs.Common.{◌≡◌, List, Option, ap, sym, subst, ◌∙◌}
use Rattle.std.specs.Prelude.{slice_get, IfOk}
use Rattle.affine_maps.specs.Shape.{MapShape}
use Rattle.mlir_edits.specs.Places.{scope_before}
use Rattle.mlir_verify.specs.Place.{type_among}
use Rattle.fuse_forms.specs.Forms.{structured}
use Rattle.fuse_elementwise.specs.declared.found.Found.{Found}
use Rattle.fuse_elementwise.proofs.Searching.{spotted_is, no_map}
use Rattle.fuse_elementwise.proofs.finding.pair_of_places.Goals as goal

pub pair_with-requires-clause-fused : goal.pair_with-requires-clause-fused
pair_with-requires-clause-fused c =
    c.requires.meet c.in-Some-map_at.m.now c.in-Some.dims
    (ap (λ (ms : List MapShape). slice_get ms c.args.k) (sym c.input_maps.ensures) ∙ sym c.in-Some-map_at.ensures)
    (sym c.in_ok-dims.ensures ∙ c.in-Some.is)

pub returns-in-Some-map_at : goal.returns-in-Some-map_at
returns-in-Some-map_at c =
    let t = type_among (scope_before c.args.f.now c.args.consumer) in
    subst (λ (x : Option Found). IfOk c.pair_with.result (λ r. r ≡ x))
    (spotted_is t c.args.f.now.body (structured c.args.p.now) (structured c.args.c.now) c.args.k c.args.v c.args.producer c.args.consumer c.in-Some.dims c.in-Some-map_at.m.now
    (sym c.in_ok-dims.ensures ∙ c.in-Some.is) (ap (λ (ms : List MapShape). slice_get ms c.args.k) (sym c.input_maps.ensures) ∙ sym c.in-Some-map_at.ensures)) c.pair_with.ensures

pub returns-in-None : goal.returns-in-None
returns-in-None c =
    let t = type_among (scope_before c.args.f.now c.args.consumer) in
    no_map t c.args.f.now.body (structured c.args.p.now) (structured c.args.c.now) c.args.k c.args.v c.args.producer c.args.consumer c.in-Some.dims
    (sym c.in_ok-dims.ensures ∙ c.in-Some.is) (ap (λ (ms : List MapShape). slice_get ms c.args.k) (sym c.input_maps.ensures) ∙ sym c.in-None.ensures)
