use Rattle.mlir_meaning.specs.Renaming.{index}
use Rattle.step_passes.specs.Naming.{name_in}
use Rattle.mlir_edits.proofs.Mapping.{mapped}
use Rattle.step_passes.proofs.moves.move_each_index.Goals as goal

pub loop-i-preserved : goal.loop-i-preserved
loop-i-preserved c =
    mapped (index (name_in c.args.moves.now)) c.args.items.now c.loop-i.items c.loop-i.i-index c.move_index.result _ c.loop-i-test.true c.move_index.ensures c.loop-i.invariant
