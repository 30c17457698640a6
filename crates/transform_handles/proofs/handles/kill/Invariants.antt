use Rattle.std.proofs.Common.{◌≡◌, ◌++◌, map, take, drop}
use Rattle.transform_handles.specs.Handles.{left}
use Rattle.transform_handles.specs.Targets.{has}
use Rattle.transform_handles.proofs.handles.kill.Given as goal

abbrev pub invariant-loop-row : goal.invariant-loop-row
invariant-loop-row l = l.rows ≡ map (left (has l.gone)) (take l.row-index l.fn.rows) ++ drop l.row-index l.fn.rows
