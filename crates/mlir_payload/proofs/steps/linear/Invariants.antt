use Rattle.std.proofs.Common.{◌≡◌, map, take}
use Rattle.mlir_payload.specs.Steps.{term_on}
use Rattle.mlir_payload.proofs.steps.linear.Given as goal

abbrev pub invariant-loop-term : goal.invariant-loop-term
invariant-loop-term l = l.terms ≡ map (term_on l.arguments) (take l.term-index l.value.terms)
