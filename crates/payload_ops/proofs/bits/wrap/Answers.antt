use Rattle.std.proofs.Common.{◌≤◌, arith}
use Rattle.std.proofs.lemmas.Int.{to_z-of_z}
use Rattle.std.proofs.lemmas.Nat.{and_mask}
use Rattle.std.specs.Int.{w128}
use Rattle.payload_ops.proofs.Words.{low-cast}
use Rattle.payload_ops.proofs.bits.wrap.Goals as goal

pub returns : goal.returns
returns c =
    let within : c.args.w ≤ 128 = omega arith in
    rw (c.all_ones.ensures.value, and_mask, c.cast_unsigned.ensures, to_z-of_z w128 c.args.n c.ranges.n) (low-cast w128 c.args.w c.args.n within c.ranges.n)
