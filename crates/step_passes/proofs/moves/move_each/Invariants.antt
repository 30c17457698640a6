use Rattle.std.proofs.Common.{◌≡◌, ◌++◌, take, drop}
use Rattle.mlir_meaning.specs.Renaming.{values}
use Rattle.step_passes.specs.Naming.{name_in}
use Rattle.step_passes.proofs.moves.move_each.Given as goal

abbrev pub invariant-loop-v : goal.invariant-loop-v
invariant-loop-v l = l.items ≡ values (name_in l.moves) (take l.v-index l.fn.items) ++ drop l.v-index l.fn.items
