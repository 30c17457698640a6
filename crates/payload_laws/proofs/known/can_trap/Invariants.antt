use Rattle.std.proofs.Common.{◌≡◌, drop}
use Rattle.std.specs.List.{list_any}
use Rattle.payload_laws.specs.Known.{op_may_trap}
use Rattle.payload_ops.specs.declared.step.PayloadStep.{PayloadStep}
use Rattle.payload_laws.proofs.known.can_trap.Given as goal

abbrev pub invariant-loop-step : goal.invariant-loop-step
invariant-loop-step l =
    list_any (λ (s : PayloadStep). op_may_trap l.steps s.ty s.op) l.steps ≡ list_any (λ (s : PayloadStep). op_may_trap l.steps s.ty s.op) (drop l.step-index l.steps)
