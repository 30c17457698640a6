use Rattle.std.proofs.Common.{◌∙◌, sym}
use Rattle.step_passes.specs.Drafting.{TakesTurn}
use Rattle.step_passes.specs.Noting.{noted_in}
use Rattle.step_passes.proofs.Drafts.{some_noted}
use Rattle.step_passes.proofs.plan.turn_at.Goals as goal

pub returns-in-Some-clause-turn : goal.returns-in-Some-clause-turn
returns-in-Some-clause-turn c = λ t h.
    some_noted (λ x. TakesTurn x c.args.op c.args.own c.args.draft.now c.take_turn.new.draft c.take_turn.result) t (noted_in c.args.index.now c.args.op)
    c.in-Some.told (sym c.take.ensures.value ∙ c.in-Some.is) h c.take_turn.ensures
