use Rattle.form_resolve.proofs.RowLaws.{row_resolves, tail_resolves}
use Rattle.form_resolve.proofs.law.rows_resolve_back.Goals as goal

pub returns-clause-row : goal.returns-clause-row
returns-clause-row c = row_resolves

pub returns-clause-tail : goal.returns-clause-tail
returns-clause-tail c = tail_resolves
