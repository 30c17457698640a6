use Rattle.std.proofs.Common.{◌≡◌, ◌+◌, ◌-◌, ◌++◌, map}
use Rattle.mlir_meaning.specs.Grids.{count_up}
use Rattle.payload_forms.specs.Moved.{captured_step}
use Rattle.payload_forms.proofs.moving.push_captured.Given as goal

abbrev pub invariant-loop-k : goal.invariant-loop-k
invariant-loop-k l = l.steps ++ map captured_step (count_up (l.first + l.k) (l.count - l.k)) ≡ l.fn.steps ++ map captured_step (count_up l.first l.count)
