use Rattle.std.proofs.Common.{◌≡◌, max, map, drop}
use Rattle.verified_runs.specs.Fresh.{above_values}
use Rattle.mlir_edits.proofs.operands.of_starts.Given as goal

abbrev pub invariant-loop-c : goal.invariant-loop-c
invariant-loop-c l = max l.end (above_values (map (λ c. c.2) (drop l.c-index l.list))) ≡ above_values (map (λ c. c.2) l.list)
