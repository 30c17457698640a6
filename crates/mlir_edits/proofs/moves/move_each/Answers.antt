use Rattle.mlir_meaning.specs.Renaming.{value}
use Rattle.mlir_edits.specs.Moves.{through}
use Rattle.mlir_edits.proofs.Mapping.{mapped}
use Rattle.mlir_edits.proofs.moves.move_each.Goals as goal

pub loop-v-preserved : goal.loop-v-preserved
loop-v-preserved c =
    mapped (value (through c.args.moves.now)) c.args.items.now c.loop-v.items c.loop-v.v-index c.move_value.result _ c.loop-v-test.true c.move_value.ensures c.loop-v.invariant
