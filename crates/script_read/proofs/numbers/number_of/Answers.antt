use Rattle.std.proofs.Common.{◌≡◌, ◌^◌, ◌≤◌, ◌*◌, ◌+◌, ◌-◌, sym, ap, ◌∙◌, arith, get_or}
use Rattle.script_read.proofs.Words.{number_past}
use Rattle.script_read.proofs.numbers.number_of.Goals as goal

pub returns-then-longer : goal.returns-then-longer
returns-then-longer c =
    sym (sym c.loop-digit.invariant
    ∙ number_past c.args.text.now c.loop-digit.digit-index 0 c.loop-digit.number (omega arith) (omega arith))
