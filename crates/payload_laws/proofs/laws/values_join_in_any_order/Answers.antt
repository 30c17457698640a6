use Rattle.payload_laws.proofs.Joined.{joined_assoc, joined_comm, joined_neutral, neutral_below, joined_below}
use Rattle.payload_laws.proofs.laws.values_join_in_any_order.Goals as goal

pub returns-clause-associative : goal.returns-clause-associative
returns-clause-associative c = joined_assoc

pub returns-clause-commutative : goal.returns-clause-commutative
returns-clause-commutative c = joined_comm

pub returns-clause-neutral : goal.returns-clause-neutral
returns-clause-neutral c = joined_neutral

pub returns-clause-value : goal.returns-clause-value
returns-clause-value c = neutral_below

pub returns-clause-closed : goal.returns-clause-closed
returns-clause-closed c = joined_below
