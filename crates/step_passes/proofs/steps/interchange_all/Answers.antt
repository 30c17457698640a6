use Rattle.step_passes.specs.Steps.{interchanging}
use Rattle.step_passes.proofs.Natural.{interchanging_exchanges}
use Rattle.step_passes.proofs.Passing.{interchanging_one_pass}
use Rattle.step_passes.proofs.Verifying.{carried_verifies, carried_answers, refusal_answers}
use Rattle.step_passes.proofs.steps.interchange_all.Goals as goal

pub carried-requires : goal.carried-requires
carried-requires c =
    carried_verifies (interchanging c.args.order.now) (interchanging_exchanges c.args.order.now) (interchanging_one_pass c.args.order.now) c.args.c c.module.result.now c.module.ensures.same c.module.ensures.verified c.args.ops.now c.requires
    c.in-Ok.plan c.in-Ok.ensures

pub returns-in-Ok : goal.returns-in-Ok
returns-in-Ok c =
    carried_answers (interchanging c.args.order.now) (interchanging_exchanges c.args.order.now) (interchanging_one_pass c.args.order.now) c.args.c c.module.result.now c.module.ensures.same c.module.ensures.verified c.args.ops.now c.requires
    c.in-Ok.plan c.carried.result c.in-Ok.ensures c.carried.ensures

pub returns-in-Err : goal.returns-in-Err
returns-in-Err c =
    refusal_answers (interchanging c.args.order.now) (interchanging_exchanges c.args.order.now) (interchanging_one_pass c.args.order.now) c.args.c c.module.result.now c.module.ensures.same c.module.ensures.verified c.args.ops.now c.requires
    c.in-Err.e c.in-Err.ensures
