use Rattle.payload_forms.specs.Names.{renamed}
use Rattle.payload_forms.proofs.Left.{Left}
use Rattle.payload_forms.proofs.placing.placed_steps.Given as goal

abbrev pub invariant-loop-i : goal.invariant-loop-i
invariant-loop-i l = Left l.uses.captured (renamed l.to.inputs l.to.steps.now) l.rest l.uses.others l.i l.next l.seen l.steps
