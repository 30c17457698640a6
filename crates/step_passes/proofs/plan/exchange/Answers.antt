use Rattle.std.proofs.Common.{◌∙◌, sym}
use Rattle.step_passes.proofs.Drafts.{exchanged_turn}
use Rattle.step_passes.proofs.plan.exchange.Goals as goal

pub returns-in-Ok : goal.returns-in-Ok
returns-in-Ok c =
    exchanged_turn c.args.draft.now c.add.new.draft c.args.own c.args.target c.args.kind (sym c.limit_before.ensures ∙ c.in_default.is) c.in-Ok.ensures
