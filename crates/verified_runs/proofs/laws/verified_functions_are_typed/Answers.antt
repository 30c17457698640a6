use Rattle.verified_runs.proofs.Runs.{comes_typed, place_passes, ends_typed}
use Rattle.verified_runs.proofs.Verified.{verified_passes}
use Rattle.verified_runs.proofs.laws.verified_functions_are_typed.Goals as goal

pub returns-clause-passes : goal.returns-clause-passes
returns-clause-passes c = verified_passes

pub returns-clause-place : goal.returns-clause-place
returns-clause-place c = place_passes

pub returns-clause-states : goal.returns-clause-states
returns-clause-states c = comes_typed

pub returns-clause-answers : goal.returns-clause-answers
returns-clause-answers c = ends_typed
