use Rattle.fuse_forms.specs.Forms.{structured}
use Rattle.fuse_elementwise.proofs.Nexts.{trap_there}
use Rattle.fuse_elementwise.proofs.next.traps.Goals as goal

pub returns : goal.returns
returns c =
    trap_there c.args.f.now c.args.found.now (structured c.args.p.now) c.in-Some.id c.requires.spot c.requires.producer c.requires.trap c.in-Some.ensures
