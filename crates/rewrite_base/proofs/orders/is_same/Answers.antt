use Rattle.rewrite_base.proofs.Absent.{differ}
use Rattle.rewrite_base.proofs.orders.is_same.Goals as goal

pub returns-then-a-b : goal.returns-then-a-b
returns-then-a-b c = differ c.args.a.now c.args.b.now c.if-a-b.true
