use Rattle.structured_steps.specs.Steps.{rules_of_interchange, interchanged_in}
use Rattle.rewrite_base.specs.Answers.{made_by_interchange}
use Rattle.rewrite_base.proofs.interchanging.interchange.Goals as goal

pub returns-in-Ok : goal.returns-in-Ok
returns-in-Ok c =
    c.finish.ensures (rules_of_interchange c.args.order.now) (interchanged_in c.args.op c.args.order.now c.args.c) (made_by_interchange c.args.c) c.in-Ok.ensures.aims
