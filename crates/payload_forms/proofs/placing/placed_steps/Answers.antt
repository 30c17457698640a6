use Rattle.std.proofs.Common.{ℕ, List, ◌+◌, get_or, sym, subst, ap, ◌∙◌}
use Rattle.payload_forms.specs.Names.{renamed}
use Rattle.payload_forms.proofs.Left.{Left, other_here, left_more}
use Rattle.payload_forms.proofs.placing.placed_steps.Goals as goal

pub loop-i-preserved : goal.loop-i-preserved
loop-i-preserved c =
    let n = c.args.uses.now.captured in
    let to = renamed c.args.to.now.inputs c.args.to.now.steps.now in
    let rest = c.args.rest.now in
    let os = c.args.uses.now.others in
    let i = c.loop-i.i in
    let s = c.index-rest-i.result in
    subst (λ (seen : ℕ). Left n to rest os (i + 1) (c.number_at-other.result + 1) seen c.push_step.new.steps) (sym c.in_ok-seen.ensures)
    (left_more n to rest os i c.loop-i.next c.loop-i.seen c.loop-i.steps c.loop-i.invariant s c.loop-i-test.true c.index-rest-i.is c.push_step.new.steps c.number_at-other.result
    (c.number_at-other.ensures ∙ ap (λ (ns : List ℕ). get_or ns i 0) c.as_slice.ensures ∙ other_here n to rest os i c.loop-i.next c.loop-i.seen c.loop-i.steps c.loop-i.invariant s c.loop-i-test.true c.index-rest-i.is)
    c.in_ok-push_step.ensures)
