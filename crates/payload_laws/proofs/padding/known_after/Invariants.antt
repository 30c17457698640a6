use Rattle.std.proofs.Common.{◌≡◌, [], take, drop}
use Rattle.payload_laws.specs.Known.{known_steps}
use Rattle.payload_laws.proofs.padding.known_after.Given as goal

abbrev pub invariant-loop-i : goal.invariant-loop-i
invariant-loop-i l = known_steps l.p l.pads l.p.steps [] ≡ known_steps l.p l.pads (drop l.i l.p.steps) (take l.i l.scratch)
