use Rattle.std.proofs.Common.{◌≡◌, ◌++◌, drop}
use Rattle.script_run.specs.Transforms.{front}
use Rattle.script_run.proofs.transforms.operations_of.Given as goal

abbrev pub invariant-loop-t : goal.invariant-loop-t
invariant-loop-t l = l.ops ++ front (drop l.t-index l.targets) ≡ front l.targets
