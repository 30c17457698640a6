use Rattle.structured_steps.proofs.Interchanged.{interchange_keeps}
use Rattle.structured_steps.proofs.Rules.{rules_decide}
use Rattle.structured_steps.proofs.laws.interchange_keeps_meaning.Goals as goal

pub returns-clause-meaning : goal.returns-clause-meaning
returns-clause-meaning c = interchange_keeps

pub returns-clause-rules : goal.returns-clause-rules
returns-clause-rules c = rules_decide
