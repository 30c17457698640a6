use Rattle.form_laws.proofs.RowLaws.{tail_tokens, tail_reads, tail_says, tail_fault}
use Rattle.form_laws.proofs.law.tails_read_back.Goals as goal

pub returns-clause-tokens : goal.returns-clause-tokens
returns-clause-tokens c = tail_tokens

pub returns-clause-read : goal.returns-clause-read
returns-clause-read c = tail_reads

pub returns-clause-fields : goal.returns-clause-fields
returns-clause-fields c = tail_says

pub returns-clause-fault : goal.returns-clause-fault
returns-clause-fault c = tail_fault
