use Rattle.std.proofs.Common.{List, ◌++◌, ap, ◌∙◌}
use Rattle.std.proofs.lemmas.Result.{on_ok_weaker, IfOk-weaker}
use Rattle.payload_ops.specs.declared.step.PayloadStep.{PayloadStep}
use Rattle.payload_forms.proofs.Joint.{producer_blocks, producer_yields}
use Rattle.payload_forms.proofs.joining.push_producer.Goals as goal

pub returns-clause-steps : goal.returns-clause-steps
returns-clause-steps c =
    on_ok_weaker c.push_payload.result
    (λ e. e ∙ ap (λ (ss : List PayloadStep). c.args.rest.now ++ ss) (producer_blocks c.args.by.now c.args.producer.now c.args.consumer.now))
    c.push_payload.ensures.steps

pub returns-clause-yielded : goal.returns-clause-yielded
returns-clause-yielded c =
    IfOk-weaker c.push_payload.result _ _ (λ a e. e ∙ producer_yields c.args.by.now c.args.producer.now c.args.consumer.now) c.push_payload.ensures.yielded
