use Rattle.std.proofs.Common.{◌<◌, ◌*◌, ◌^◌, arith, lt-ltb, ◌∙◌}
use Rattle.payload_ops.proofs.Words.{low-low}
use Rattle.payload_ops.proofs.operations.shift_left.Goals as goal

pub returns-then-b-bits : goal.returns-then-b-bits
returns-then-b-bits c =
    let below : c.args.b < c.args.w = omega arith in
    rw (lt-ltb c.args.b c.args.w below) (c.low_bits.ensures.value ∙ low-low c.args.w 64 (c.args.a * 2 ^ c.args.b) c.low_bits.ensures.width)
