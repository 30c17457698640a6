use Rattle.form_resolve.proofs.PartsRead.{parts_read}
use Rattle.form_resolve.proofs.RowLaws.{row_means, tail_means}
use Rattle.form_resolve.proofs.law.parts_are_read.Goals as goal

pub returns-clause-parts : goal.returns-clause-parts
returns-clause-parts c = parts_read

pub returns-clause-row : goal.returns-clause-row
returns-clause-row c = row_means

pub returns-clause-tail : goal.returns-clause-tail
returns-clause-tail c = tail_means
