use Rattle.std.proofs.Common.{◌≡◌, ap, ◌∙◌}
use Rattle.fuse_elementwise.specs.Turns.{fused_body}
use Rattle.fuse_elementwise.proofs.Bodies.{body_there}
use Rattle.fuse_elementwise.proofs.putting.put.Goals as goal

pub invariant_of-result : goal.invariant_of-result
invariant_of-result c =
    let body : c.f.inside.body ≡ c.args.f.body = λ j. (c.f.view_is j).body in
    body_there c.args.producer c.args.consumer c.args.kind c.args.f.body c.in_ok-body.body c.requires.producer c.requires.consumer
    (c.in_ok-body.ensures ∙ ap (fused_body c.args.producer c.args.consumer c.args.kind) body)
