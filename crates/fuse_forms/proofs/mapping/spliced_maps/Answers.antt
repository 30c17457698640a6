use Rattle.std.proofs.Common.{Bool, Ok, map, subst}
use Rattle.affine_maps.specs.Compose.{composed}
use Rattle.affine_maps.specs.Map.{IsMap}
use Rattle.affine_maps.specs.Shape.{MapShape}
use Rattle.payload_forms.proofs.Splices.{spliced_by_parts}
use Rattle.fuse_forms.specs.Forms.{Adds}
use Rattle.fuse_forms.proofs.Composed.{each_within}
use Rattle.fuse_forms.proofs.mapping.spliced_maps.Goals as goal

pub returns-then-not-branch : goal.returns-then-not-branch
returns-then-not-branch c = λ fit.
    let new = map (λ (m : MapShape). composed m c.args.inner.now) c.args.producer.now in
    let none = subst (λ (b : Bool). Adds (Ok b) c.push_copies.new.all c.push_composed.new.all new) c.if-not-branch.true c.in_ok-push_composed.ensures in
    none (each_within IsMap c.args.at new c.args.consumer.now c.requires.at fit)

pub returns : goal.returns
returns c =
    let new = map (λ (m : MapShape). composed m c.args.inner.now) c.args.producer.now in
    let added = subst (λ (b : Bool). Adds (Ok b) c.push_copies.new.all c.push_composed.new.all new) c.if-not-branch.false c.in_ok-push_composed.ensures in
    spliced_by_parts c.args.at new c.args.consumer.now c.new-all.result c.push_copies.new.all c.push_composed.new.all c.push_copies-2.new.all c.requires.at
    c.new-all.ensures c.in_ok-push_copies.ensures added c.in_ok-push_copies-2.ensures
