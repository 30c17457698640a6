use Rattle.std.proofs.lemmas.Nat.{and_mask}
use Rattle.payload_ops.proofs.bits.low_bits.Goals as goal

pub returns-clause-value : goal.returns-clause-value
returns-clause-value c = rw c.all_ones.ensures.value (and_mask c.args.v c.args.w)
