use Rattle.mlir_meaning.specs.Renaming.{value}
use Rattle.step_passes.specs.Naming.{name_in}
use Rattle.mlir_edits.proofs.Mapping.{mapped}
use Rattle.step_passes.proofs.moves.move_each.Goals as goal

pub loop-v-preserved : goal.loop-v-preserved
loop-v-preserved c =
    mapped (value (name_in c.args.moves.now)) c.args.items.now c.loop-v.items c.loop-v.v-index c.move_value.result _ c.loop-v-test.true c.move_value.ensures c.loop-v.invariant
