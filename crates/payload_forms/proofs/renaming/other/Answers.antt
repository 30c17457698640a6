use Rattle.std.proofs.Common.{sym, arith}
use Rattle.payload_forms.proofs.Splices.{other_below, other_at, other_above}
use Rattle.payload_forms.proofs.renaming.other.Goals as goal

pub returns-then-i-at : goal.returns-then-i-at
returns-then-i-at c = sym (other_below c.args.at c.args.count c.args.i (omega arith))

pub returns-then-i-at-2 : goal.returns-then-i-at-2
returns-then-i-at-2 c = sym (other_at c.args.at c.args.count c.args.i (omega arith))

pub returns-else-i-at-2 : goal.returns-else-i-at-2
returns-else-i-at-2 c = sym (other_above c.args.at c.args.count c.args.i (omega arith))
