use Rattle.std.proofs.Common.{◌≡◌, ◌++◌, take, drop}
use Rattle.mlir_meaning.specs.Renaming.{indices}
use Rattle.step_passes.specs.Naming.{name_in}
use Rattle.step_passes.proofs.moves.move_each_index.Given as goal

abbrev pub invariant-loop-i : goal.invariant-loop-i
invariant-loop-i l = l.items ≡ indices (name_in l.moves) (take l.i-index l.fn.items) ++ drop l.i-index l.fn.items
