use Rattle.std.proofs.Common.{◌+◌, ◌*◌, ap, arith}
use Rattle.affine_text.proofs.Digits.{too_large}
use Rattle.affine_text.proofs.reading.number.number_of.Goals as goal

pub returns-then-number : goal.returns-then-number
returns-then-number c =
    too_large c.args.digits.now c.loop-digit.digit-index c.loop-digit.number (c.loop-digit.number * 10 + c.digit_value.result) (omega arith) (ap (λ n. c.loop-digit.number * 10 + n) c.digit_value.ensures.value) c.loop-digit.invariant.value (omega arith)
