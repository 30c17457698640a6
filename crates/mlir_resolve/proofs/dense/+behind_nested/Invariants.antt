use Rattle.std.proofs.Common.{◌≡◌, ◌-◌, length}
use Rattle.mlir_resolve.specs.Constants.{times, behind_close, behind_nested, and_behind}
use Rattle.mlir_resolve.proofs.dense.+behind_nested.Given as goal

abbrev pub invariant-loop-turn : goal.invariant-loop-turn
invariant-loop-turn l = and_behind (times (l._turn-end - l._turn) (behind_nested l.inner) l.rest) behind_close ≡ behind_nested l.fn.extents l.fn.marks

abbrev pub decreases-behind_nested : goal.decreases-behind_nested
decreases-behind_nested l = length l.extents.now
