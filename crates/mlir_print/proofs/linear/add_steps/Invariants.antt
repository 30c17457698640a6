use Rattle.std.proofs.Common.{◌≡◌, drop}
use Rattle.mlir_print.specs.Maps.{steps_maps}
use Rattle.mlir_print.specs.MapParts.{with_texts}
use Rattle.mlir_print.proofs.linear.add_steps.Given as goal

abbrev pub invariant-loop-step : goal.invariant-loop-step
invariant-loop-step l = with_texts l.aliases (steps_maps (drop l.step-index l.steps)) ≡ with_texts l.fn.aliases (steps_maps l.steps)
