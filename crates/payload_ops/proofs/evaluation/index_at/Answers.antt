use Rattle.std.proofs.Common.{sym, mod-eq_of_lt}
use Rattle.payload_ops.proofs.evaluation.index_at.Goals as goal

pub returns : goal.returns
returns c = sym (mod-eq_of_lt (c.type_inv.values c.args.k).fits)
