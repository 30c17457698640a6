use Rattle.checked_edits.proofs.Kept.{limits_are_the_last}
use Rattle.checked_edits.proofs.laws.limits_are_the_last_rule.Goals as goal

pub returns : goal.returns
returns c = limits_are_the_last
