use Rattle.std.proofs.Common.{◌≤◌, arith, refl, ◌∙◌}
use Rattle.mlir_base.proofs.Ones.{shifted_ones}
use Rattle.mlir_scope.proofs.literals.most_of.Goals as goal

pub returns-else-negative : goal.returns-else-negative
returns-else-negative c =
    let within : c.bits-else-negative.result ≤ 64 = omega arith in
    shifted_ones c.bits-else-negative.result within ∙ rw (c.bits-else-negative.ensures.value, c.in-Int.is, c.if-negative.false) refl
