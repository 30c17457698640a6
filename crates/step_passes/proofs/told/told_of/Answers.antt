use Rattle.std.proofs.Common.{subst, sym}
use Rattle.step_passes.specs.declared.told.Step.{Step}
use Rattle.step_passes.specs.Planned.{told_at}
use Rattle.step_passes.specs.Telling.{types_known, exchanging, Tells}
use Rattle.step_passes.proofs.told.told_of.Goals as goal

pub returns-in-Ok : goal.returns-in-Ok
returns-in-Ok c =
    subst (λ (s : Step). Tells (told_at (exchanging s) (types_known c.args.known.now) c.args.kind.now) c.of_shape.result) (sym c.in-Generalize.is)
    (c.of_shape.ensures (types_known c.args.known.now) c.args.kind.now c.in-Ok.ensures)

pub returns-in-Ok-turned_by : goal.returns-in-Ok-turned_by
returns-in-Ok-turned_by c =
    subst (λ (s : Step). Tells (told_at (exchanging s) (types_known c.args.known.now) c.args.kind.now) c.of_turn.result) (sym c.in-Interchange.is)
    (c.of_turn.ensures c.in-Interchange.order.now (types_known c.args.known.now) c.args.kind.now c.in-Ok-turned_by.ensures)
