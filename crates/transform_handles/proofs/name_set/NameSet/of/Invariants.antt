use Rattle.std.proofs.Common.{take}
use Rattle.transform_handles.specs.Names.{HoldsNames}
use Rattle.transform_handles.proofs.name_set.NameSet.of.Given as goal

abbrev pub invariant-loop-name : goal.invariant-loop-name
invariant-loop-name l = HoldsNames l.set.names (take l.name-index l.names)
