-- Payloads with a step for each captured value in front, and for none behind those.
use Rattle.std.specs.Prelude.{◌≡◌, ℕ, false, nat_lt, ⊤}
use Rattle.payload_ops.specs.declared.step.Arg.{Arg}
use Rattle.payload_ops.specs.declared.step.Arg.TheVariants.{Input, Out, Step}
use Rattle.payload_ops.specs.declared.step.StepOp.{StepOp}
use Rattle.payload_ops.specs.declared.step.StepOp.TheVariants.{Captured}

-- the argument isn't one of the first c steps
abbrev pub IsBehind : ℕ → Arg → Type 0
IsBehind c (Input i) = ⊤
IsBehind c Out = ⊤
IsBehind c (Step i) = nat_lt i c ≡ false

abbrev pub IsNotCaptured : StepOp → Type 0
IsNotCaptured (Captured k) = ⊥
IsNotCaptured op = ⊤
