use Rattle.std.proofs.Common.{◌≡◌, ℕ, length}
use Rattle.mlir_ir.specs.Count.{first}
use Rattle.step_passes.specs.OnePass.{exchange_of}
use Rattle.step_passes.specs.Pending.{pending_at}
use Rattle.step_passes.proofs.pending.all_pending.Given as goal

abbrev pub invariant-loop-x : goal.invariant-loop-x
invariant-loop-x l = (i : ℕ) → first (exchange_of l.rest.items i) (pending_at l.all i) ≡ exchange_of l.fn.exchanges i

abbrev pub decreases-loop-x : goal.decreases-loop-x
decreases-loop-x l = length l.rest.items
