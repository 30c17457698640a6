use Rattle.std.proofs.Common.{◌≡◌, ◌++◌, take, drop}
use Rattle.mlir_meaning.specs.Renaming.{reused_ops}
use Rattle.step_passes.specs.Naming.{name_in}
use Rattle.step_passes.proofs.kinds.+moving.Given as goal

abbrev pub invariant-move_ops-loop-k : goal.invariant-move_ops-loop-k
invariant-move_ops-loop-k l = record {
  unvisited : goal.unvisited-move_ops-loop-k l;
  done : l.ops ≡ reused_ops (name_in l.moves) (take l.k l.fn.ops) ++ drop l.k l.fn.ops;
}
