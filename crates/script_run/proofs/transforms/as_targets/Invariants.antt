use Rattle.std.proofs.Common.{◌≡◌, map, take}
use Rattle.transform_handles.specs.declared.target.Target.TheVariants.{Operation}
use Rattle.script_run.proofs.transforms.as_targets.Given as goal

abbrev pub invariant-loop-op : goal.invariant-loop-op
invariant-loop-op l = l.targets ≡ map Operation (take l.op-index l.ops)
