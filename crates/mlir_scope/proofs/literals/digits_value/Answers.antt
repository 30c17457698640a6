use Rattle.std.proofs.Common.{◌≤◌, ◌^◌, ◌*◌, ◌+◌, ◌-◌, get_or, arith}
use Rattle.mlir_scope.specs.Literals.{digits_value}
use Rattle.mlir_scope.proofs.Ranges.{passes}
use Rattle.mlir_scope.proofs.literals.digits_value.Goals as goal

pub returns-in_default : goal.returns-in_default
returns-in_default c =
    let far : 2 ^ 64 ≤ c.loop-digit.value * 10 = omega (arith, c.in_default.ensures) in
    passes c.args.digits.now c.loop-digit.digit-index c.loop-digit.value 0 (digits_value c.args.digits.now) (omega arith) (omega arith) c.loop-digit.invariant

pub returns-in_default-checked_add : goal.returns-in_default-checked_add
returns-in_default-checked_add c =
    let far : 2 ^ 64 ≤ c.loop-digit.value * 10 + (get_or c.args.digits.now c.loop-digit.digit-index 0 - 48) = omega (arith, c.in_default-checked_add.ensures, c.in-Some.ensures, c.saturating_sub.ensures) in
    passes c.args.digits.now c.loop-digit.digit-index c.loop-digit.value 0 (digits_value c.args.digits.now) (omega arith) far c.loop-digit.invariant
