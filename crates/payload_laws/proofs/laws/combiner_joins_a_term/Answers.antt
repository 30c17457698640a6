use Rattle.payload_laws.proofs.Combiners.{joins_term, term_apart}
use Rattle.payload_laws.proofs.laws.combiner_joins_a_term.Goals as goal

pub returns-clause-joins : goal.returns-clause-joins
returns-clause-joins c = joins_term

pub returns-clause-apart : goal.returns-clause-apart
returns-clause-apart c = term_apart
