-- The parts of an operation name what `uses` says of it.
use Rattle.payload_ops.proofs.Ready.{uses}
use Rattle.payload_ops.proofs.evaluation.Arguments.step_value.Goals as goal

pub index_at-requires : goal.index_at-requires
index_at-requires c = uses c.requires c.in-Index.is

pub index_at-requires-in-Captured : goal.index_at-requires-in-Captured
index_at-requires-in-Captured c = uses c.requires c.in-Captured.is

pub linear-requires-clause-fits : goal.linear-requires-clause-fits
linear-requires-clause-fits c = rw c.as_slice.ensures (uses c.requires c.in-Linear.is)

pub value_of-requires-clause-named : goal.value_of-requires-clause-named
value_of-requires-clause-named c = (uses c.requires c.in-Binary.is).0.named

pub value_of-requires-in-Binary-clause-named : goal.value_of-requires-in-Binary-clause-named
value_of-requires-in-Binary-clause-named c = (uses c.requires c.in-Binary.is).1.named

pub binary-requires-clause-first : goal.binary-requires-clause-first
binary-requires-clause-first c = rw (c.width.ensures, ← (uses c.requires c.in-Binary.is).0.bits) c.value_of.ensures.in_type

pub binary-requires-clause-second : goal.binary-requires-clause-second
binary-requires-clause-second c = rw (c.width.ensures, ← (uses c.requires c.in-Binary.is).1.bits) c.value_of-in-Binary.ensures.in_type

pub width_of-requires : goal.width_of-requires
width_of-requires c = (uses c.requires c.in-Compare.is).0.whole

pub value_of-requires-in-Compare-clause-named : goal.value_of-requires-in-Compare-clause-named
value_of-requires-in-Compare-clause-named c = (uses c.requires c.in-Compare.is).0.named

pub value_of-requires-in-Compare-2-clause-named : goal.value_of-requires-in-Compare-2-clause-named
value_of-requires-in-Compare-2-clause-named c = (uses c.requires c.in-Compare.is).1.named

pub compare-holds-requires-clause-second : goal.compare-holds-requires-clause-second
compare-holds-requires-clause-second c = rw (c.width_of.ensures, ← (uses c.requires c.in-Compare.is).1.bits) c.value_of-in-Compare-2.ensures.in_type

pub value_of-requires-in-Select-clause-named : goal.value_of-requires-in-Select-clause-named
value_of-requires-in-Select-clause-named c = (uses c.requires c.in-Select.is).0.named

pub value_of-requires-then-value_of-eq0-clause-named : goal.value_of-requires-then-value_of-eq0-clause-named
value_of-requires-then-value_of-eq0-clause-named c = (uses c.requires c.in-Select.is).2.named

pub value_of-requires-else-value_of-eq0-clause-named : goal.value_of-requires-else-value_of-eq0-clause-named
value_of-requires-else-value_of-eq0-clause-named c = (uses c.requires c.in-Select.is).1.named

pub resized-requires-clause-named : goal.resized-requires-clause-named
resized-requires-clause-named c = (uses c.requires c.in-SignExtend.is).named

pub value_of-requires-in-ZeroExtend-clause-named : goal.value_of-requires-in-ZeroExtend-clause-named
value_of-requires-in-ZeroExtend-clause-named c = (uses c.requires c.in-ZeroExtend.is).named

pub value_of-requires-in-Truncate-clause-named : goal.value_of-requires-in-Truncate-clause-named
value_of-requires-in-Truncate-clause-named c = (uses c.requires c.in-Truncate.is).named

pub resized-requires-in-IndexCast-clause-named : goal.resized-requires-in-IndexCast-clause-named
resized-requires-in-IndexCast-clause-named c = (uses c.requires c.in-IndexCast.is).named
