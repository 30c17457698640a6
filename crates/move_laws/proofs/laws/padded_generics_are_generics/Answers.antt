use Rattle.move_laws.proofs.Stated.{padded_is, padded_inputs, padded_runs}
use Rattle.move_laws.proofs.laws.padded_generics_are_generics.Goals as goal

pub returns-clause-whole : goal.returns-clause-whole
returns-clause-whole c = padded_is

pub returns-clause-inputs : goal.returns-clause-inputs
returns-clause-inputs c = padded_inputs

pub returns-clause-runs : goal.returns-clause-runs
returns-clause-runs c = padded_runs
