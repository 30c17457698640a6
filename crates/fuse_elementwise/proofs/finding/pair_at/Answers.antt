use Rattle.std.proofs.Common.{◌≡◌, List, Option, take, ◌∙◌, ap, sym, subst}
use Rattle.std.specs.Prelude.{IfOk}
use Rattle.mlir_ir.specs.declared.tree.Op.{Op}
use Rattle.fuse_forms.specs.Forms.{structured}
use Rattle.fuse_elementwise.specs.Spots.{defined_in}
use Rattle.fuse_elementwise.specs.declared.found.Found.{Found}
use Rattle.fuse_elementwise.proofs.Searching.{meet_there, spot_there}
use Rattle.fuse_elementwise.proofs.finding.pair_at.Goals as goal

pub pair_of_places-requires-clause-meet : goal.pair_of_places-requires-clause-meet
pair_of_places-requires-clause-meet c =
    meet_there c.args.f.now c.requires.passes c.args.consumer (structured c.args.c.now) c.requires.there c.args.k c.args.v c.requires.operand
    c.in-Some.defined.place c.in-Some.defined.op.now (structured c.in-Some-as_generic.p)
    (c.in-Some.ensures ∙ ap (λ (os : List Op). defined_in c.args.v (take c.args.consumer os)) (c.as_slice-body.ensures ∙ (λ j. (c.f.view_is j).body))) (sym c.in-Some-as_generic.ensures)

pub returns-in-Some-as_generic : goal.returns-in-Some-as_generic
returns-in-Some-as_generic c =
    subst (λ (x : Option Found). IfOk c.pair_of_places.result (λ r. r ≡ x))
    (spot_there c.args.f.now c.requires.passes c.args.consumer (structured c.args.c.now) c.requires.there c.args.k c.args.v c.requires.operand
    c.in-Some.defined.place c.in-Some.defined.op.now (structured c.in-Some-as_generic.p)
    (c.in-Some.ensures ∙ ap (λ (os : List Op). defined_in c.args.v (take c.args.consumer os)) (c.as_slice-body.ensures ∙ (λ j. (c.f.view_is j).body))) (sym c.in-Some-as_generic.ensures))
    c.pair_of_places.ensures
