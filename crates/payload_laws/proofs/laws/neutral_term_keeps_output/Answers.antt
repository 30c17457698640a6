use Rattle.payload_laws.proofs.KnownValues.{keeps_output}
use Rattle.payload_laws.proofs.laws.neutral_term_keeps_output.Goals as goal

pub returns : goal.returns
returns c = keeps_output
