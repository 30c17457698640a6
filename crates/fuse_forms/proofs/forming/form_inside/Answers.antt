use Rattle.std.proofs.Common.{ℕ, List, Option, map, sym, subst, ap, ◌∙◌}
use Rattle.std.specs.Prelude.{slice_index_or}
use Rattle.affine_maps.specs.declared.map.Expr.{Expr}
use Rattle.named_forms.specs.Fit.{IsFit}
use Rattle.payload_ops.specs.Payload.{IsPayload}
use Rattle.payload_forms.specs.Uses.{PlacedFits}
use Rattle.payload_forms.specs.declared.placing.PlacedPayload.{PlacedPayload}
use Rattle.fuse_forms.specs.Captures.{value}
use Rattle.fuse_forms.specs.Forms.{joint_by, placed_payload, structured}
use Rattle.fuse_forms.proofs.Joints.{formed_same}
use Rattle.fuse_forms.proofs.forming.form_inside.Goals as goal

pub returns-in-Ok-Some : goal.returns-in-Ok-Some
returns-in-Ok-Some c =
    let p = structured c.args.p.now in
    let q = structured c.args.c.now in
    let k = c.args.k in
    let all = c.as_slice-in-Ok-Some.result.now in
    let placed = c.in-Ok-Some.placed in
    let made = subst (λ (r : Option PlacedPayload). IsFit PlacedFits r (placed_payload (joint_by p q k c.as_slice.result.now) p.payload q.payload))
    c.in-Ok-Some.field-0-is c.in-Ok-Some.ensures in
    formed_same p q k c.args.inner.now.results all c.in_ok-captured-in-Ok-Some.captured placed
    (c.as_slice-in-Ok-Some.ensures ∙ c.in_ok-all.ensures)
    (made ∙ ap (λ (es : List Expr). placed_payload (joint_by p q k es) p.payload q.payload) (c.as_slice.ensures ∙ c.results.ensures.value))
    (c.in_ok-captured-in-Ok-Some.ensures ∙ ap (map (λ (n : ℕ). value (slice_index_or all n 0))) c.as_slice-in-Ok-Some-2.ensures)

pub returns-in-Ok-None : goal.returns-in-Ok-None
returns-in-Ok-None c = λ fit.
    let p = structured c.args.p.now in
    let q = structured c.args.c.now in
    let k = c.args.k in
    let none = subst (λ (r : Option PlacedPayload). IsFit PlacedFits r (placed_payload (joint_by p q k c.as_slice.result.now) p.payload q.payload))
    c.in-Ok-None.field-0-is c.in-Ok-None.ensures in
    none (subst (λ (es : List Expr). IsPayload (placed_payload (joint_by p q k es) p.payload q.payload).payload)
    (sym (c.as_slice.ensures ∙ c.results.ensures.value)) fit)
