use Rattle.std.proofs.Common.{◌≡◌, List, Option, ℕ, length, ap, sym, subst, ◌∙◌}
use Rattle.std.specs.Prelude.{slice_get}
use Rattle.std.specs.List.{list_all}
use Rattle.std.proofs.lemmas.Option.{none-some}
use Rattle.affine_maps.specs.Map.{map_fits}
use Rattle.affine_maps.specs.Shape.{MapShape}
use Rattle.mlir_meaning.specs.Grids.{Each}
use Rattle.named_forms.specs.Fit.{IsFit}
use Rattle.verified_runs.specs.Forms.{Structured}
use Rattle.tile_bridge.specs.Instances.{input_maps}
use Rattle.pair_laws.specs.Pairs.{fused_op}
use Rattle.fuse_forms.specs.Forms.{structured, GenericFits}
use Rattle.fuse_elementwise.proofs.Nexts.{dims_here, forms_none, forms_some, map_there}
use Rattle.fuse_elementwise.proofs.next.formed.Goals as goal

pub unreachable-requires : goal.unreachable-requires
unreachable-requires c =
    let f = c.args.f.now in
    let p = structured c.args.p.now in
    let q = structured c.args.c.now in
    none-some c.requires.pair.pair.m
    (c.in_default.ensures ∙ ap (λ (ms : List MapShape). slice_get ms c.args.found.now.operand) c.input_maps.ensures ∙ map_there f c.requires.passes c.args.found.now p q c.requires.pair)

pub fused-requires : goal.fused-requires
fused-requires c =
    subst (λ (ds : List ℕ). Each (λ (i : MapShape). length ds ≡ i.dims) (input_maps (structured c.args.p.now))) (sym c.as_slice.ensures)
    (dims_here c.args.f.now c.requires.passes c.args.found.now (structured c.args.p.now) (structured c.args.c.now) c.requires.pair)

pub returns-in-Ok-Some : goal.returns-in-Ok-Some
returns-in-Ok-Some c =
    let p = structured c.args.p.now in
    let q = structured c.args.c.now in
    forms_some c.args.f.now c.requires.passes c.args.found.now p q c.requires.pair c.in-Some.m.now c.in-Ok-Some.g
    (c.in-Some.ensures ∙ ap (λ (ms : List MapShape). slice_get ms c.args.found.now.operand) c.input_maps.ensures)
    (subst (λ (r : Option Structured). IsFit GenericFits r (fused_op p q c.args.found.now.operand c.in-Some.m.now c.as_slice.result.now)) c.in-Ok-Some.field-0-is c.in-Ok-Some.ensures ∙ ap (λ (ds : List ℕ). fused_op p q c.args.found.now.operand c.in-Some.m.now ds) c.as_slice.ensures)
    (ap (list_all map_fits) (sym (c.as_slice-in-Ok-Some.ensures ∙ (λ j. (c.g.view_is j).maps))) ∙ c.keep_maps.ensures)

pub returns-in-Ok-None : goal.returns-in-Ok-None
returns-in-Ok-None c =
    let p = structured c.args.p.now in
    let q = structured c.args.c.now in
    let none = subst (λ (r : Option Structured). IsFit GenericFits r (fused_op p q c.args.found.now.operand c.in-Some.m.now c.as_slice.result.now)) c.in-Ok-None.field-0-is c.in-Ok-None.ensures in
    forms_none c.args.f.now c.requires.passes c.args.found.now p q c.requires.pair c.in-Some.m.now
    (c.in-Some.ensures ∙ ap (λ (ms : List MapShape). slice_get ms c.args.found.now.operand) c.input_maps.ensures)
    (λ fits. none (subst (λ (ds : List ℕ). GenericFits (fused_op p q c.args.found.now.operand c.in-Some.m.now ds)) (sym c.as_slice.ensures) fits))
