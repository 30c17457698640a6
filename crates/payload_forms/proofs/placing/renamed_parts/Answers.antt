use Rattle.std.proofs.Common.{List, [], ap, ◌∙◌}
use Rattle.payload_ops.specs.declared.step.PayloadStep.{PayloadStep}
use Rattle.payload_forms.specs.declared.renaming.Inputs.TheVariants.{Kept}
use Rattle.payload_forms.specs.Captured.{placed_steps}
use Rattle.payload_forms.specs.Names.{renamed}
use Rattle.payload_forms.proofs.Left.{yields_placed, steps_placed}
use Rattle.payload_forms.proofs.placing.renamed_parts.Goals as goal

pub returns-clause-steps : goal.returns-clause-steps
returns-clause-steps c =
    let uses = c.args.uses in
    let front = c.args.front.now in
    c.in_ok-steps.ensures
    ∙ ap (λ (ss : List PayloadStep). placed_steps uses.captured (renamed Kept c.as_slice.result.now) 0 [] ss) c.as_slice-2.ensures
    ∙ steps_placed front.captured front.rest front.yielded uses.captured uses.seen uses.spots uses.others c.as_slice.result.now
    c.requires.captured c.requires.seen c.requires.spots c.requires.others (c.as_slice.ensures ∙ c.in_ok-numbers.ensures)

pub returns-clause-yielded : goal.returns-clause-yielded
returns-clause-yielded c =
    let uses = c.args.uses in
    let front = c.args.front.now in
    c.in_ok-yielded.ensures
    ∙ yields_placed front.captured front.rest front.yielded uses.captured uses.seen uses.spots uses.others c.as_slice.result.now
    c.requires.captured c.requires.seen c.requires.spots c.requires.others (c.as_slice.ensures ∙ c.in_ok-numbers.ensures)
