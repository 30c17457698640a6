use Rattle.std.proofs.Common.{Option, subst, ◌∙◌}
use Rattle.std.specs.Prelude.{IfOk}
use Rattle.named_forms.specs.Fit.{IsFit}
use Rattle.payload_forms.specs.Joined.{Joint}
use Rattle.payload_forms.specs.Uses.{PlacedFits}
use Rattle.payload_forms.specs.declared.placing.PlacedPayload.{PlacedPayload}
use Rattle.fuse_forms.specs.Forms.{placed_payload, structured}
use Rattle.fuse_forms.proofs.Joints.{joint_same}
use Rattle.fuse_forms.proofs.payloads.fused_payload.Goals as goal

pub returns : goal.returns
returns c =
    let p = c.args.p.now in
    let q = c.args.c.now in
    subst (λ (j : Joint). IfOk c.placed_payload.result (λ (r : Option PlacedPayload). IsFit PlacedFits r (placed_payload j p.payload.now q.payload.now)))
    (joint_same (structured p) (structured q) c.args.k c.args.exprs.now c.args.captured.now c.as_slice.result.now c.as_slice-2.result.now c.len-count.result
    c.requires (c.as_slice.ensures ∙ c.in_ok-of_producer.ensures) (c.as_slice-2.ensures ∙ c.in_ok-of_consumer.ensures) c.len-count.ensures)
    c.placed_payload.ensures
