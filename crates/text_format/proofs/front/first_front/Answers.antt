use Rattle.text_format.proofs.Runs.{first_within_parts}
use Rattle.text_format.proofs.front.first_front.Goals as goal

pub returns-in-len1-up-clause-within : goal.returns-in-len1-up-clause-within
returns-in-len1-up-clause-within c = first_within_parts c.args.bytes.now c.front_by.result c.in-len1-up.len_at_least c.front_by.ensures
