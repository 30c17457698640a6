-- What the evaluation of a payload has when it comes to a step.
use Rattle.std.specs.Prelude.{◌≡◌, ℕ, length, List, [], take, Some, slice_get}
use Rattle.payload_ops.specs.Payload.{IsPayload}
use Rattle.payload_ops.specs.Shape.{PayloadShape}
use Rattle.payload_ops.specs.Values.{Given, IsGiven, steps_values}
use Rattle.payload_ops.specs.declared.evaluation.Arguments.{Arguments}
use Rattle.payload_ops.specs.declared.step.PayloadStep.{PayloadStep}

abbrev pub given_of : Arguments → Given
given_of r = record { point = r.point.now; outer = r.outer.now; ins = r.ins.now; out = r.out }

-- `done` are the values of the steps so far
pub record IsReady (p : PayloadShape) (g : Given) (done : List ℕ) : Type 0 where
  pub fits : IsPayload p
  pub given : IsGiven p g
  pub values : steps_values p g (take (length done) p.steps) [] ≡ Some done

-- and the step is the next one
pub record IsNext (p : PayloadShape) (g : Given) (done : List ℕ) (s : PayloadStep) : Type 0 where
  pub ready : IsReady p g done
  pub step : slice_get p.steps (length done) ≡ Some s
