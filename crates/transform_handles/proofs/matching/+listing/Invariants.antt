use Rattle.std.proofs.Common.{◌≡◌, List, ◌++◌, drop}
use Rattle.std.specs.List.{list_any}
use Rattle.transform_handles.specs.declared.target.Target.{Target}
use Rattle.transform_handles.specs.Targets.{has}
use Rattle.transform_handles.specs.Items.{items_of, picked}
use Rattle.transform_handles.specs.Matching.{wants}
use Rattle.transform_handles.proofs.matching.+listing.Given as goal

abbrev pub invariant-list_body-loop-op : goal.invariant-list_body-loop-op
invariant-list_body-loop-op l = (around : List Target) → l.within ≡ list_any (has l.what.targets) around →
    l.found ++ picked (wants l.what) (items_of (drop l.op-index l.ops) around) ≡ l.fn.found ++ picked (wants l.what) (items_of l.ops around)
