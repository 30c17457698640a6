use Rattle.form_resolve.proofs.RowLaws.{fault_first, values_for, said}
use Rattle.form_resolve.proofs.law.parts_are_resolved.Goals as goal

pub returns-clause-fault : goal.returns-clause-fault
returns-clause-fault c = fault_first

pub returns-clause-values : goal.returns-clause-values
returns-clause-values c = values_for

pub returns-clause-said : goal.returns-clause-said
returns-clause-said c = said
