use Rattle.std.proofs.Common.{◌≡◌, drop}
use Rattle.std.specs.List.{list_any}
use Rattle.transform_handles.specs.Targets.{has}
use Rattle.transform_handles.proofs.target_set.TargetSet.has_one.Given as goal

abbrev pub invariant-loop-t : goal.invariant-loop-t
invariant-loop-t l = list_any (has l.self) l.targets ≡ list_any (has l.self) (drop l.t-index l.targets)
