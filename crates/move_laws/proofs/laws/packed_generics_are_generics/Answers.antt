use Rattle.move_laws.proofs.Merged.{unpack_pack}
use Rattle.move_laws.proofs.Stated.{packed_is, packed_inputs, packed_runs}
use Rattle.move_laws.proofs.laws.packed_generics_are_generics.Goals as goal

pub returns-clause-back : goal.returns-clause-back
returns-clause-back c = unpack_pack

pub returns-clause-whole : goal.returns-clause-whole
returns-clause-whole c = packed_is

pub returns-clause-inputs : goal.returns-clause-inputs
returns-clause-inputs c = packed_inputs

pub returns-clause-runs : goal.returns-clause-runs
returns-clause-runs c = packed_runs
