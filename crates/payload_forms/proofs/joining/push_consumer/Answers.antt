use Rattle.std.proofs.Common.{ℕ, List, ◌+◌, ◌++◌, length, ap, ◌∙◌}
use Rattle.std.proofs.lemmas.Result.{on_ok_weaker, IfOk-weaker}
use Rattle.mlir_base.specs.declared.types.ElemTy.{ElemTy}
use Rattle.payload_ops.specs.declared.step.PayloadStep.{PayloadStep}
use Rattle.payload_forms.proofs.Joint.{consumer_blocks, consumer_yields}
use Rattle.payload_forms.proofs.joining.push_consumer.Goals as goal

pub returns-clause-steps : goal.returns-clause-steps
returns-clause-steps c =
    on_ok_weaker c.push_payload.result
    (λ e. e ∙ ap (λ (ss : List PayloadStep). c.args.rest.now ++ ss)
    (consumer_blocks c.args.by.now c.args.producer.now c.args.consumer.now c.args.rest.now c.requires.steps c.in_ok-count.count
    (c.in_ok-count.ensures.value ∙ c.len.ensures ∙ ap (λ (ts : List ElemTy). length ts) c.ins.ensures) c.args.value c.requires.value
    c.in_ok-first.first (c.in_ok-first.ensures ∙ ap (λ (n : ℕ). c.args.by.now.captured + n) c.len-2.ensures)))
    c.push_payload.ensures.steps

pub returns-clause-yielded : goal.returns-clause-yielded
returns-clause-yielded c =
    IfOk-weaker c.push_payload.result _ _
    (λ a e. e ∙ consumer_yields c.args.by.now c.args.producer.now c.args.consumer.now c.args.rest.now c.requires.steps c.in_ok-count.count
    (c.in_ok-count.ensures.value ∙ c.len.ensures ∙ ap (λ (ts : List ElemTy). length ts) c.ins.ensures) c.args.value c.requires.value
    c.in_ok-first.first (c.in_ok-first.ensures ∙ ap (λ (n : ℕ). c.args.by.now.captured + n) c.len-2.ensures))
    c.push_payload.ensures.yielded
