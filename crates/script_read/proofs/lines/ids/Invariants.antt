use Rattle.std.proofs.Common.{◌≡◌, ◌++◌, ◌-◌}
use Rattle.script_read.specs.Resolve.{ids}
use Rattle.script_read.proofs.lines.ids.Given as goal

abbrev pub invariant-loop-number : goal.invariant-loop-number
invariant-loop-number l = l.found ++ ids l.number (l.end - l.number) ≡ ids l.first (l.end - l.first)
