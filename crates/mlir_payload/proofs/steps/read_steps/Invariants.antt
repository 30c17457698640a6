use Rattle.std.proofs.Common.{◌≡◌, ◌≤◌, length}
use Rattle.mlir_payload.specs.Steps.{steps_of}
use Rattle.mlir_payload.proofs.steps.read_steps.Given as goal

abbrev pub invariant-loop-left : goal.invariant-loop-left
invariant-loop-left l = record { found : steps_of l.aliases l.outer l.stop l.inside l.left ≡ steps_of l.aliases l.outer l.stop l.fn.inside l.steps; few : length l.inside.steps ≤ 1024 }

abbrev pub decreases-loop-left : goal.decreases-loop-left
decreases-loop-left l = length l.left
