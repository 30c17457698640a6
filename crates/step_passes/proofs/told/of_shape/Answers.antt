use Rattle.std.proofs.Common.{subst}
use Rattle.verified_runs.specs.Forms.{structured_of, is_generic}
use Rattle.rewrite_base.specs.Shapes.{Shapes}
use Rattle.step_passes.proofs.Answering.{stays_told}
use Rattle.step_passes.proofs.told.of_shape.Goals as goal

pub returns-in-Stays : goal.returns-in-Stays
returns-in-Stays c = λ t kind h. stays_told t kind (subst (Shapes (is_generic kind) (structured_of t kind)) c.in-Stays.is h)
