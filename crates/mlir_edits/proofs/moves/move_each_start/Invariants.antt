use Rattle.std.proofs.Common.{◌≡◌, ◌++◌, take, drop}
use Rattle.mlir_meaning.specs.Renaming.{arguments_renamed}
use Rattle.mlir_edits.specs.Moves.{through}
use Rattle.mlir_edits.proofs.moves.move_each_start.Given as goal

abbrev pub invariant-loop-c : goal.invariant-loop-c
invariant-loop-c l = l.items ≡ arguments_renamed (λ n. n) (through l.moves) (λ n. n) (take l.c-index l.fn.items) ++ drop l.c-index l.fn.items
