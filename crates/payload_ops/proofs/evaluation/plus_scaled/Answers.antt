use Rattle.std.proofs.lemmas.Int.{to_z-of_z}
use Rattle.std.proofs.Common.{w64}
use mir.ValLaws.{half_full}
use Rattle.payload_ops.proofs.Words.{low-scaled}
use Rattle.payload_ops.proofs.evaluation.plus_scaled.Goals as goal

pub returns : goal.returns
returns c = rw (c.cast_unsigned.ensures, to_z-of_z w64 c.args.coefficient c.ranges.coefficient) (low-scaled c.args.sum c.args.value c.args.coefficient (half_full w64 c.ranges.coefficient.sfits))
