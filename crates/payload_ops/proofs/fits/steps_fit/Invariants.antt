use Rattle.std.proofs.Common.{◌≡◌, [], take, drop}
use Rattle.payload_ops.specs.Payload.{steps_fit}
use Rattle.payload_ops.proofs.fits.steps_fit.Given as goal

abbrev pub invariant-loop-i : goal.invariant-loop-i
invariant-loop-i l = steps_fit l.ins l.out l.steps [] ≡ steps_fit l.ins l.out (drop l.i l.steps) (take l.i l.steps)
