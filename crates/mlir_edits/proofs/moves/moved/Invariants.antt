use Rattle.std.proofs.Common.{◌≡◌, drop}
use Rattle.mlir_meaning.specs.States.{names_of}
use Rattle.verified_runs.specs.Edits.{moved}
use Rattle.mlir_edits.proofs.moves.moved.Given as goal

abbrev pub invariant-loop-k : goal.invariant-loop-k
invariant-loop-k l = moved (names_of (drop l.k l.from)) (drop l.k l.to) l.w ≡ moved (names_of l.from) l.to l.w
