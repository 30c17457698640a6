use Rattle.mlir_payload.proofs.StillNew.{operation_new, fresh_both}
use Rattle.mlir_payload.proofs.steps.read_step.Goals as goal

pub add_step-requires-clause-new : goal.add_step-requires-clause-new
add_step-requires-clause-new c =
    let f = fresh_both c.args.outer.now c.args.inside.now.names c.args.step.now.result _ c.in_ok-fresh_in.ensures in
    operation_new c.args.outer.now c.args.step.now.result.text f.0 c.args.aliases.now c.args.stop c.args.inside.now c.args.step.now.operation (c.read_operation.new.inside, c.in_ok-one.one) c.in_ok-one.ensures.value f.1
