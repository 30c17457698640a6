use Rattle.std.proofs.Common.{◌≡◌, ◌≤◌, ◌++◌, drop}
use Rattle.script_text.specs.Texts.{steps_text}
use Rattle.script_text.proofs.text.write_steps.Given as goal

abbrev pub invariant-loop-step : goal.invariant-loop-step
invariant-loop-step l = record { written : l.out.items ++ steps_text l.depth l.rows l.number (drop l.step-index l.steps) ≡ l.fn.out.items ++ steps_text l.depth l.fn.rows 0 l.steps; few : l.number ≤ l.step-index }
