use Rattle.verified_runs.proofs.Kept.{comes_kept, around_is_below, later_are_other, renamed_after}
use Rattle.verified_runs.proofs.laws.places_keep_other_values.Goals as goal

pub returns-clause-kept : goal.returns-clause-kept
returns-clause-kept c = comes_kept

pub returns-clause-alone : goal.returns-clause-alone
returns-clause-alone c = around_is_below

pub returns-clause-other : goal.returns-clause-other
returns-clause-other c = later_are_other

pub returns-clause-renamed : goal.returns-clause-renamed
returns-clause-renamed c = renamed_after
