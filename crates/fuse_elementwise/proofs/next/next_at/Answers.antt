use Rattle.std.proofs.Common.{sym}
use Rattle.fuse_forms.specs.Forms.{structured}
use Rattle.fuse_elementwise.proofs.Nexts.{is_pair, none_there, none_here}
use Rattle.fuse_elementwise.proofs.next.next_at.Goals as goal

pub unreachable-requires : goal.unreachable-requires
unreachable-requires c = none_there c.args.f.now c.args.found c.requires.spot c.in_default.ensures

pub unreachable-requires-in_default-generic_at : goal.unreachable-requires-in_default-generic_at
unreachable-requires-in_default-generic_at c = none_here c.args.f.now c.args.found c.requires.spot c.in_default-generic_at.ensures

pub fusion-requires-clause-pair : goal.fusion-requires-clause-pair
fusion-requires-clause-pair c =
    is_pair c.args.f.now c.args.found (structured c.in-Some.p) (structured c.in-Some-generic_at.c) c.requires.spot
    (sym c.in-Some.ensures) (sym c.in-Some-generic_at.ensures)
