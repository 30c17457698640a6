use Rattle.std.proofs.Common.{Option, subst}
use Rattle.std.specs.Prelude.{IfOk}
use Rattle.named_forms.specs.Fit.{IsFit}
use Rattle.payload_forms.specs.Names.{joint}
use Rattle.payload_forms.specs.Uses.{PlacedFits}
use Rattle.payload_forms.specs.declared.placing.PlacedPayload.{PlacedPayload}
use Rattle.fuse_forms.proofs.Joints.{placed_same}
use Rattle.fuse_forms.proofs.payloads.placed_payload.Goals as goal

pub returns : goal.returns
returns c =
    let front = c.in_ok-front.front in
    let is = c.in_ok-front.ensures in
    subst (λ (x : PlacedPayload). IfOk c.placed.result (λ (r : Option PlacedPayload). IsFit PlacedFits r x))
    (placed_same (joint c.args.by.now) c.args.p.now c.args.c.now front.captured front.ins front.out front.rest front.yielded is.captured is.ins is.out is.rest is.yielded)
    c.placed.ensures
