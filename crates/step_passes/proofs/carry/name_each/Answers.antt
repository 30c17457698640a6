use Rattle.std.proofs.Common.{get_or, refl}
use Rattle.mlir_edits.proofs.Mapping.{mapped}
use Rattle.step_passes.specs.Pending.{under}
use Rattle.step_passes.proofs.carry.name_each.Goals as goal

pub loop-r-preserved : goal.loop-r-preserved
loop-r-preserved c =
    mapped (under c.args.value) c.args.results.now c.loop-r.results c.loop-r.r-index
    (under c.args.value (get_or c.loop-r.results c.loop-r.r-index c.r-item.result)) c.r-item.result c.loop-r-test.true refl c.loop-r.invariant
