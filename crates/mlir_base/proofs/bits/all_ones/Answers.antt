use Rattle.std.proofs.Common.{◌≤◌, arith}
use Rattle.mlir_base.proofs.Ones.{shifted_ones}
use Rattle.mlir_base.proofs.bits.all_ones.Goals as goal

pub returns-clause-value : goal.returns-clause-value
returns-clause-value c = let within : c.args.w ≤ 64 = omega arith in rw c.bits.ensures.value (shifted_ones c.args.w within)
