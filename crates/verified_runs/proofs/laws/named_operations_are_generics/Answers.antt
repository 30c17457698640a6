use Rattle.verified_runs.proofs.NamedLaws.{named_means_generic, generic_passes}
use Rattle.verified_runs.proofs.laws.named_operations_are_generics.Goals as goal

pub returns-clause-meaning : goal.returns-clause-meaning
returns-clause-meaning c = named_means_generic

pub returns-clause-passes : goal.returns-clause-passes
returns-clause-passes c = generic_passes
