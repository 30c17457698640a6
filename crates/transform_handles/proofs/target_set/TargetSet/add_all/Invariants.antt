use Rattle.std.proofs.Common.{List, ◌++◌, take}
use Rattle.transform_handles.specs.Targets.{Holds}
use Rattle.transform_handles.specs.declared.target.Target.{Target}
use Rattle.transform_handles.proofs.target_set.TargetSet.add_all.Given as goal

abbrev pub invariant-loop-t : goal.invariant-loop-t
invariant-loop-t l = (ts : List Target) → Holds l.fn.self ts → Holds l.self (ts ++ take l.t-index l.targets)
