use Rattle.std.proofs.Common.{◌≡◌, ◌++◌, map, take, drop}
use Rattle.step_passes.specs.Pending.{under}
use Rattle.step_passes.proofs.carry.name_each.Given as goal

abbrev pub invariant-loop-r : goal.invariant-loop-r
invariant-loop-r l = l.results ≡ map (under l.value) (take l.r-index l.fn.results) ++ drop l.r-index l.fn.results
