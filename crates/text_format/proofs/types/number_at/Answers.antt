use Rattle.std.proofs.Common.{◌∙◌, sym, arith}
use Rattle.text_format.specs.Types.{number_at}
use Rattle.text_format.proofs.Numbers.{number_goes}
use Rattle.text_format.proofs.types.number_at.Goals as goal

pub loop-i-preserved : goal.loop-i-preserved
loop-i-preserved c =
    let d = sym c.is_digit.ensures ∙ c.if-not-is_digit.false in
    let r = number_goes c.args.bytes.now c.loop-i.i c.loop-i.number c.with_digit-number.result (number_at c.args.bytes.now 0) (omega arith) d c.with_digit-number.ensures.exact c.loop-i.invariant.0 c.loop-i.invariant.1 in
    (r.0, r.1, c.with_digit-number.ensures.within)
