use Rattle.std.proofs.Common.{◌∙◌, ap}
use Rattle.std.specs.Prelude.{option_copied}
use Rattle.mlir_ir.specs.Count.{first}
use Rattle.mlir_verify.specs.Place.{type_among}
use Rattle.mlir_edits.proofs.Scopes.{scope_goes}
use Rattle.mlir_edits.proofs.scope.type_after.Goals as goal

pub loop-op-preserved : goal.loop-op-preserved
loop-op-preserved c =
    scope_goes c.args.params.now c.args.ops.now c.loop-op.op-index c.op-item.result c.args.v.0 _ _ c.loop-op-test.true c.op-item.is (c.newer-found.ensures ∙ ap (λ t. first t (option_copied c.loop-op.found)) (c.type_among.ensures ∙ ap (λ ds. type_among ds c.args.v.0) c.as_slice.ensures)) c.loop-op.invariant
