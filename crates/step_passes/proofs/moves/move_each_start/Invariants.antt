use Rattle.std.proofs.Common.{◌≡◌, ◌++◌, take, drop}
use Rattle.mlir_meaning.specs.Renaming.{arguments_renamed}
use Rattle.step_passes.specs.Naming.{name_in}
use Rattle.step_passes.proofs.moves.move_each_start.Given as goal

abbrev pub invariant-loop-c : goal.invariant-loop-c
invariant-loop-c l = l.items ≡ arguments_renamed (λ n. n) (name_in l.moves) (λ n. n) (take l.c-index l.fn.items) ++ drop l.c-index l.fn.items
