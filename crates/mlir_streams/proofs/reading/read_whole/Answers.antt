use Rattle.std.proofs.Common.{arith}
use Rattle.mlir_streams.proofs.Taken.{taken_after}
use Rattle.mlir_streams.proofs.reading.read_whole.Goals as goal

pub returns-in_err-read_more-clause-taken : goal.returns-in_err-read_more-clause-taken
returns-in_err-read_more-clause-taken g c =
    taken_after _ _ _ _ _ _ c.loop-text.invariant.so_far c.read_more.ensures.taken (omega arith)
