use Rattle.std.proofs.Common.{◌≤◌, arith}
use Rattle.std.proofs.lemmas.Int.{to_z-of_z}
use Rattle.std.specs.Int.{w64}
use Rattle.payload_ops.proofs.Words.{low-cast}
use Rattle.payload_ops.proofs.bits.wrap_signed.Goals as goal

pub returns-clause-value : goal.returns-clause-value
returns-clause-value c =
    let within : c.args.w ≤ 64 = omega arith in
    rw (c.low_bits.ensures.value, c.cast_unsigned.ensures, to_z-of_z w64 c.args.n c.ranges.n) (low-cast w64 c.args.w c.args.n within c.ranges.n)
