use Rattle.std.proofs.Common.{◌≡◌, ◌++◌, drop}
use Rattle.transform_handles.specs.Items.{items_from, picked}
use Rattle.transform_handles.specs.Matching.{wants}
use Rattle.transform_handles.proofs.matching.list_funcs.Given as goal

abbrev pub invariant-loop-f : goal.invariant-loop-f
invariant-loop-f l = record {
  added : l.found ++ picked (wants l.what) (items_from l.number (drop l.f-index l.funcs)) ≡ picked (wants l.what) (items_from 0 l.funcs);
  number : l.number ≡ l.f-index;
}
