use Rattle.std.proofs.Common.{List, ◌++◌, length, ap, ◌∙◌}
use Rattle.std.specs.Prelude.{nat_le}
use Rattle.payload_forms.specs.Joined.{Joint, producer_steps, consumer_steps}
use Rattle.payload_ops.specs.declared.step.PayloadStep.{PayloadStep}
use Rattle.fuse_forms.specs.Forms.{structured}
use Rattle.fuse_elementwise.proofs.Counts.{joint_is, steps_long}
use Rattle.fuse_elementwise.proofs.fitting.has_few_steps.Goals as goal

pub returns : goal.returns
returns c =
    let p = structured c.args.p.now in
    let q = structured c.args.c.now in
    let k = c.args.k in
    let exprs = c.args.exprs.now in
    ap (λ n. nat_le n 1024)
    (c.len.ensures
    ∙ ap (λ (l : List PayloadStep). length l) c.in_ok-front.ensures.rest
    ∙ ap (λ (j : Joint). length (producer_steps j p.payload q.payload ++ consumer_steps j p.payload q.payload)) (joint_is p q c.requires.p_none c.requires.c_none k exprs)
    ∙ steps_long p q c.requires.p_none c.requires.c_none k exprs)
