use Rattle.structured_steps.specs.Steps.{rules_of_generalize, generalized}
use Rattle.rewrite_base.specs.Answers.{made_by_generalize}
use Rattle.rewrite_base.proofs.generalizing.generalize.Goals as goal

pub returns-in-Ok : goal.returns-in-Ok
returns-in-Ok c =
    c.finish.ensures rules_of_generalize (generalized c.args.op c.args.c) (made_by_generalize c.args.op c.args.c) c.in-Ok.ensures.aims
