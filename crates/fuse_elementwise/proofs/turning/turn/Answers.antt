use Rattle.std.proofs.Common.{subst, ◌∙◌}
use Rattle.fuse_elementwise.specs.Turns.{NextIs}
use Rattle.fuse_elementwise.proofs.Fusions.{pair_put, spot_within}
use Rattle.fuse_elementwise.proofs.turning.turn.Goals as goal

pub put-requires-clause-consumer : goal.put-requires-clause-consumer
put-requires-clause-consumer c =
    let x = subst (NextIs c.args.f) c.in-Becomes.is c.requires in
    spot_within c.args.f x.0 x.1 c.in-Becomes.found x.4

pub returns-in-Ok : goal.returns-in-Ok
returns-in-Ok c =
    let x = subst (NextIs c.args.f) c.in-Becomes.is c.requires in
    (x.0, x.1, x.2, x.3, c.in-Ok.ensures ∙ pair_put c.args.f x.0 x.1 c.in-Becomes.found c.in-Becomes.kind x.4 x.5, x.6)
