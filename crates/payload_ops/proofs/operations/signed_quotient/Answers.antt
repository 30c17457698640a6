use Rattle.std.proofs.Common.{FitsSigned, w64, to_z-of_z, sym, ◌∙◌}
use Rattle.payload_ops.proofs.Words.{signed-nonzero}
use Rattle.payload_ops.proofs.BinaryLemmas.{unless-false, divisor-some, quotient-is}
use Rattle.payload_ops.specs.Bits.{on_values}
use Rattle.payload_ops.proofs.operations.signed_quotient.Goals as goal

pub wrapping_div-requires : goal.wrapping_div-requires
wrapping_div-requires c =
    let some = divisor-some c.args.w c.args.a c.args.b (sym c.quotient_traps.ensures ∙ c.if-quotient_traps.false) in
    let fits : FitsSigned w64 c.signed-else-quotient_traps.result = record { sfits = c.signed-else-quotient_traps.type_inv } in
    rw (to_z-of_z fits) (signed-nonzero c.args.w c.args.b c.signed-else-quotient_traps.result c.requires.second some c.signed-else-quotient_traps.ensures fits)

pub returns-else-quotient_traps : goal.returns-else-quotient_traps
unfolding on_values
returns-else-quotient_traps c =
    let first : FitsSigned w64 c.signed.result = record { sfits = c.signed.type_inv } in
    let second : FitsSigned w64 c.signed-else-quotient_traps.result = record { sfits = c.signed-else-quotient_traps.type_inv } in
    let quotient : FitsSigned w64 c.wrapping_div.result = record { sfits = c.wrapping_div.type_inv } in
    let stands = rw (to_z-of_z quotient, c.wrapping_div.ensures, to_z-of_z first, to_z-of_z second) at c.wrap_signed.ensures.value in
    unless-false _ _ c.wrap_signed.result (sym c.quotient_traps.ensures ∙ c.if-quotient_traps.false)
    (stands ∙ quotient-is c.args.w c.args.a c.args.b c.signed.result c.signed-else-quotient_traps.result c.wrap_signed.ensures.width first c.signed.ensures c.signed-else-quotient_traps.ensures)
