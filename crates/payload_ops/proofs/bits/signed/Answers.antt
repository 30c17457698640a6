use Rattle.std.proofs.Common.{◌^◌, ◌-◌, ◌≤◌, ◌<◌, to_z, negsuc, arith, ap, sym, ◌∙◌, pow_mono}
use Rattle.std.proofs.lemmas.Int.{to_z_pos}
use mir.ValLaws.{to_z-neg}
use Rattle.std.specs.Int.{w64}
use Rattle.payload_ops.proofs.Words.{signed-low, signed-high, pow-double}
use Rattle.payload_ops.proofs.bits.signed.Goals as goal

pub returns-then-v-sign_bit : goal.returns-then-v-sign_bit
returns-then-v-sign_bit c =
    let low : c.args.v < 2 ^ (c.args.w - 1) = omega arith in
    let width : c.args.w - 1 ≤ 63 = omega arith in
    let small : c.args.v < 2 ^ 63 = omega (arith, pow_mono width) in
    to_z_pos w64 c.args.v small ∙ sym (signed-low c.args.w c.args.v c.requires low)

pub returns-else-v-sign_bit : goal.returns-else-v-sign_bit
returns-else-v-sign_bit c =
    let high : 2 ^ (c.args.w - 1) ≤ c.args.v = omega arith in
    let width : c.args.w - 1 ≤ 63 = omega arith in
    let some : 0 < c.args.w = omega arith in
    let double = pow-double c.args.w some in
    let most = pow_mono width in
    let far = c.all_ones.result - c.args.v in
    let small : far < 2 ^ 63 = omega arith in
    ap (to_z w64) (omega arith) ∙ to_z-neg w64 far small ∙ ap negsuc (omega arith) ∙ sym (signed-high c.args.w c.args.v c.requires high)
