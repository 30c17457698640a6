use Rattle.std.proofs.Common.{get_or}
use Rattle.mlir_ir.specs.declared.tree.Ty.{Ty}
use Rattle.mlir_ir.specs.declared.tree.ValueId.{ValueId}
use Rattle.mlir_meaning.specs.Renaming.{value}
use Rattle.step_passes.specs.Naming.{name_in}
use Rattle.mlir_edits.proofs.Mapping.{mapped}
use Rattle.step_passes.proofs.moves.move_each_start.Goals as goal

pub loop-c-preserved : goal.loop-c-preserved
loop-c-preserved c =
    let old = get_or c.loop-c.items c.loop-c.c-index c.c-item.result in
    mapped (λ (s : ValueId × Ty × ValueId). (value (λ n. n) s.0, s.1, value (name_in c.args.moves.now) s.2)) c.args.items.now c.loop-c.items c.loop-c.c-index
    (old.0, old.1, c.move_value-c.result) c.c-item.result c.loop-c-test.true (λ j. (old.0, old.1, c.move_value-c.ensures j)) c.loop-c.invariant
