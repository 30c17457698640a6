use Rattle.verified_runs.proofs.Steps.{step_keeps, module_keeps}
use Rattle.verified_runs.proofs.Formed.{formed_passes}
use Rattle.verified_runs.proofs.laws.steps_keep_meaning.Goals as goal

pub returns-clause-function : goal.returns-clause-function
returns-clause-function c = step_keeps

pub returns-clause-module : goal.returns-clause-module
returns-clause-module c = module_keeps

pub returns-clause-passes : goal.returns-clause-passes
returns-clause-passes c = formed_passes
