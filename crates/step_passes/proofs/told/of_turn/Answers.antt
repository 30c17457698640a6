use Rattle.std.proofs.Common.{subst}
use Rattle.structured_steps.specs.Interchange.{as_generic}
use Rattle.rewrite_base.specs.Turns.{Turns}
use Rattle.step_passes.proofs.Answering.{unfit_told}
use Rattle.step_passes.proofs.told.of_turn.Goals as goal

pub returns-in-Unfit : goal.returns-in-Unfit
returns-in-Unfit c = λ order t kind h.
    let q = subst (Turns order (as_generic kind)) c.in-Unfit.is h in (q.0, unfit_told order (as_generic kind) q.0 q.1)
