use Rattle.std.proofs.Common.{◌≡◌, drop}
use Rattle.payload_laws.specs.Combiners.{steps_avoid}
use Rattle.payload_laws.proofs.combine.steps_avoid.Given as goal

abbrev pub invariant-loop-step : goal.invariant-loop-step
invariant-loop-step l = steps_avoid l.place l.steps ≡ steps_avoid l.place (drop l.step-index l.steps)
