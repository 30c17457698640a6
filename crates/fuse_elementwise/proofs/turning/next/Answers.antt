use Rattle.std.proofs.Common.{sym, ◌∙◌}
use Rattle.fuse_elementwise.proofs.Nexts.{no_spot}
use Rattle.fuse_elementwise.proofs.turning.next.Goals as goal

pub returns-in-Ok-None : goal.returns-in-Ok-None
returns-in-Ok-None c = no_spot c.args.f.now (sym c.in-Ok-None.field-0-is ∙ c.in-Ok-None.ensures)
