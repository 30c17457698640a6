use Rattle.std.proofs.Common.{rules, SFits, ◌<◌, ◌^◌, arith, ap, ◌∙◌}
use Rattle.std.proofs.lemmas.Int.{to_z-of_z, to_z_pos}
use Rattle.std.specs.Int.{w64, w128}
use Rattle.payload_ops.specs.Bits.{reduce, signed_of}
use Rattle.payload_ops.proofs.Words.{reduce-lt}
use Rattle.mlir_print.proofs.Signs.{reduced, signed_low}
use Rattle.mlir_print.proofs.literals.number_of.Goals as goal

pub signed-requires : goal.signed-requires
signed-requires c = rw c.wrap.ensures (reduce-lt c.width-width.result _)

pub returns : goal.returns
returns c =
    let small : c.args.value < 2 ^ 127 = omega arith in
    let fits : SFits w64 c.signed.result = search rules in
    to_z-of_z w64 c.signed.result fits ∙ c.signed.ensures
    ∙ ap (signed_of c.width-width.result) (c.wrap.ensures ∙ ap (reduce c.width-width.result) (to_z_pos w128 c.args.value small) ∙ reduced c.width-width.result c.args.value)
    ∙ signed_low c.width-width.result c.args.value ∙ ap (λ b. signed_of b c.args.value) c.width-width.ensures
