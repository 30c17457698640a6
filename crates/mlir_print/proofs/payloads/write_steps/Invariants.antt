use Rattle.std.proofs.Common.{◌≡◌, ◌++◌, drop}
use Rattle.mlir_print.specs.PayloadParts.{steps_text}
use Rattle.mlir_print.proofs.payloads.write_steps.Given as goal

abbrev pub invariant-loop-step : goal.invariant-loop-step
invariant-loop-step l = record {
  same : l.number ≡ l.step-index;
  written : l.out.items ++ steps_text l.inside.aliases.now l.inside.args l.inside.results l.inside.payload.now l.number (drop l.step-index l.steps) ≡ l.fn.out.items ++ steps_text l.inside.aliases.now l.inside.args l.inside.results l.inside.payload.now 0 l.steps;
}
