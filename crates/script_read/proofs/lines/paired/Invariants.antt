use Rattle.std.proofs.Common.{◌≡◌, length}
use Rattle.script_read.specs.Resolve.{paired}
use Rattle.script_read.proofs.lines.paired.Given as goal

abbrev pub invariant-loop-wanted : goal.invariant-loop-wanted
invariant-loop-wanted l = paired l.close l.wanted l.rest ≡ paired l.close l.names l.types

abbrev pub decreases-loop-wanted : goal.decreases-loop-wanted
decreases-loop-wanted l = length l.wanted
