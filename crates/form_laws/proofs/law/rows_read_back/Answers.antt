use Rattle.form_laws.proofs.RowLaws.{row_tokens, row_reads, row_says, row_fault}
use Rattle.form_laws.proofs.law.rows_read_back.Goals as goal

pub returns-clause-tokens : goal.returns-clause-tokens
returns-clause-tokens c = row_tokens

pub returns-clause-read : goal.returns-clause-read
returns-clause-read c = row_reads

pub returns-clause-fields : goal.returns-clause-fields
returns-clause-fields c = row_says

pub returns-clause-fault : goal.returns-clause-fault
returns-clause-fault c = row_fault
