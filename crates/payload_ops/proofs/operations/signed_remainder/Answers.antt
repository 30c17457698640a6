use Rattle.std.proofs.Common.{◌<◌, FitsSigned, w64, arith, to_z-of_z}
use Rattle.payload_ops.proofs.Words.{signed-nonzero}
use Rattle.payload_ops.proofs.operations.signed_remainder.Goals as goal

pub wrapping_rem-requires : goal.wrapping_rem-requires
wrapping_rem-requires c =
    let some : 0 < c.args.b = omega arith in
    let fits : FitsSigned w64 c.signed-else-b-eq0.result = record { sfits = c.signed-else-b-eq0.type_inv } in
    rw (to_z-of_z fits) (signed-nonzero c.args.w c.args.b c.signed-else-b-eq0.result c.requires.second some c.signed-else-b-eq0.ensures fits)
