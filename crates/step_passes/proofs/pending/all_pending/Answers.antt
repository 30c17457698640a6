use Rattle.std.proofs.Common.{ap, sym, ◌∙◌}
use Rattle.mlir_ir.specs.Count.{first}
use Rattle.step_passes.specs.OnePass.{exchange_of}
use Rattle.step_passes.specs.Pending.{pending_at}
use Rattle.step_passes.proofs.Carrying.{last_added}
use Rattle.step_passes.proofs.pending.all_pending.Goals as goal

pub loop-x-preserved : goal.loop-x-preserved
loop-x-preserved c i =
    ap (first (exchange_of c.pop.new.self.items i)) (c.in_ok-add.ensures i)
    ∙ sym (last_added c.pop.new.self.items c.in-Some.x i (pending_at c.loop-x.all i))
    ∙ ap (λ xs. first (exchange_of xs i) (pending_at c.loop-x.all i)) (sym c.in-Some.ensures.items)
    ∙ c.loop-x.invariant i
