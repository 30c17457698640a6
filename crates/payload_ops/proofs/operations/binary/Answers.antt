-- Each arm gives the operation on values.
use Rattle.std.proofs.Common.{◌+◌, ◌*◌, bit_and, bit_or, bit_xor, refl, sym, ap, ◌∙◌, Ok, Some, FitsSigned, w64, to_z-of_z}
use Rattle.payload_ops.proofs.Words.{low-low}
use Rattle.payload_ops.proofs.BinaryLemmas.{gives_value, low-difference}
use Rattle.payload_ops.specs.Bits.{on_values}
use Rattle.payload_ops.specs.declared.kinds.BinOp.TheVariants.{Addi, Subi, Muli, Divsi, Divui, Remsi, Remui, Andi, Ori, Xori, Shli, Shrsi, Shrui, Maxsi, Maxui, Minsi, Minui}
use Rattle.payload_ops.proofs.operations.binary.Goals as goal

pub returns-in-Addi : goal.returns-in-Addi
unfolding on_values
returns-in-Addi c =
    let given = gives_value c.args.op Addi c.args.w c.args.a c.args.b (Ok c.low_bits.result) c.in-Addi.is c.requires.first c.requires.second (ap Some (sym (c.low_bits.ensures.value ∙ low-low c.args.w 64 (c.args.a + c.args.b) c.low_bits.ensures.width))) in
    record { value = given.value; in_type = given.in_type }

pub returns-in-Subi : goal.returns-in-Subi
unfolding on_values
returns-in-Subi c =
    let given = gives_value c.args.op Subi c.args.w c.args.a c.args.b (Ok c.low_bits-in-Subi.result) c.in-Subi.is c.requires.first c.requires.second (ap Some (sym (c.low_bits-in-Subi.ensures.value ∙ low-difference c.args.w c.args.a c.args.b c.low_bits-in-Subi.ensures.width c.requires.second))) in
    record { value = given.value; in_type = given.in_type }

pub returns-in-Muli : goal.returns-in-Muli
unfolding on_values
returns-in-Muli c =
    let given = gives_value c.args.op Muli c.args.w c.args.a c.args.b (Ok c.low_bits-in-Muli.result) c.in-Muli.is c.requires.first c.requires.second (ap Some (sym (c.low_bits-in-Muli.ensures.value ∙ low-low c.args.w 64 (c.args.a * c.args.b) c.low_bits-in-Muli.ensures.width))) in
    record { value = given.value; in_type = given.in_type }

pub returns-in-Divsi : goal.returns-in-Divsi
unfolding on_values
returns-in-Divsi c =
    let given = gives_value c.args.op Divsi c.args.w c.args.a c.args.b c.signed_quotient.result c.in-Divsi.is c.requires.first c.requires.second c.signed_quotient.ensures in
    record { value = given.value; in_type = given.in_type }

pub returns-in-Divui : goal.returns-in-Divui
unfolding on_values
returns-in-Divui c =
    let given = gives_value c.args.op Divui c.args.w c.args.a c.args.b c.unsigned_quotient.result c.in-Divui.is c.requires.first c.requires.second c.unsigned_quotient.ensures in
    record { value = given.value; in_type = given.in_type }

pub returns-in-Remsi : goal.returns-in-Remsi
unfolding on_values
returns-in-Remsi c =
    let given = gives_value c.args.op Remsi c.args.w c.args.a c.args.b c.signed_remainder.result c.in-Remsi.is c.requires.first c.requires.second c.signed_remainder.ensures in
    record { value = given.value; in_type = given.in_type }

pub returns-in-Remui : goal.returns-in-Remui
unfolding on_values
returns-in-Remui c =
    let given = gives_value c.args.op Remui c.args.w c.args.a c.args.b c.unsigned_remainder.result c.in-Remui.is c.requires.first c.requires.second c.unsigned_remainder.ensures in
    record { value = given.value; in_type = given.in_type }

pub returns-in-Andi : goal.returns-in-Andi
unfolding on_values
returns-in-Andi c =
    let given = gives_value c.args.op Andi c.args.w c.args.a c.args.b (Ok (bit_and c.args.a c.args.b)) c.in-Andi.is c.requires.first c.requires.second refl in
    record { value = given.value; in_type = given.in_type }

pub returns-in-Ori : goal.returns-in-Ori
unfolding on_values
returns-in-Ori c =
    let given = gives_value c.args.op Ori c.args.w c.args.a c.args.b (Ok (bit_or c.args.a c.args.b)) c.in-Ori.is c.requires.first c.requires.second refl in
    record { value = given.value; in_type = given.in_type }

pub returns-in-Xori : goal.returns-in-Xori
unfolding on_values
returns-in-Xori c =
    let given = gives_value c.args.op Xori c.args.w c.args.a c.args.b (Ok (bit_xor c.args.a c.args.b)) c.in-Xori.is c.requires.first c.requires.second refl in
    record { value = given.value; in_type = given.in_type }

pub returns-in-Shli : goal.returns-in-Shli
unfolding on_values
returns-in-Shli c =
    let given = gives_value c.args.op Shli c.args.w c.args.a c.args.b (Ok c.shift_left.result) c.in-Shli.is c.requires.first c.requires.second (ap Some (sym c.shift_left.ensures)) in
    record { value = given.value; in_type = given.in_type }

pub returns-in-Shrsi : goal.returns-in-Shrsi
unfolding on_values
returns-in-Shrsi c =
    let given = gives_value c.args.op Shrsi c.args.w c.args.a c.args.b (Ok c.shift_sign_right.result) c.in-Shrsi.is c.requires.first c.requires.second (ap Some (sym c.shift_sign_right.ensures)) in
    record { value = given.value; in_type = given.in_type }

pub returns-in-Shrui : goal.returns-in-Shrui
unfolding on_values
returns-in-Shrui c =
    let given = gives_value c.args.op Shrui c.args.w c.args.a c.args.b (Ok c.shift_right.result) c.in-Shrui.is c.requires.first c.requires.second (ap Some (sym c.shift_right.ensures)) in
    record { value = given.value; in_type = given.in_type }

pub returns-in-Maxsi : goal.returns-in-Maxsi
unfolding on_values
returns-in-Maxsi c =
    let first : FitsSigned w64 c.signed.result = record { sfits = c.signed.type_inv } in
    let second : FitsSigned w64 c.signed-in-Maxsi.result = record { sfits = c.signed-in-Maxsi.type_inv } in
    let chosen : FitsSigned w64 c.max.result = record { sfits = c.max.type_inv } in
    let stands = rw (to_z-of_z chosen, c.max.ensures.value, to_z-of_z first, to_z-of_z second, c.signed.ensures, c.signed-in-Maxsi.ensures) at c.wrap_signed.ensures.value in
    let given = gives_value c.args.op Maxsi c.args.w c.args.a c.args.b (Ok c.wrap_signed.result) c.in-Maxsi.is c.requires.first c.requires.second (ap Some (sym stands)) in
    record { value = given.value; in_type = given.in_type }

pub returns-in-Minsi : goal.returns-in-Minsi
unfolding on_values
returns-in-Minsi c =
    let first : FitsSigned w64 c.signed-in-Minsi.result = record { sfits = c.signed-in-Minsi.type_inv } in
    let second : FitsSigned w64 c.signed-in-Minsi-2.result = record { sfits = c.signed-in-Minsi-2.type_inv } in
    let chosen : FitsSigned w64 c.min.result = record { sfits = c.min.type_inv } in
    let stands = rw (to_z-of_z chosen, c.min.ensures.value, to_z-of_z first, to_z-of_z second, c.signed-in-Minsi.ensures, c.signed-in-Minsi-2.ensures) at c.wrap_signed-in-Minsi.ensures.value in
    let given = gives_value c.args.op Minsi c.args.w c.args.a c.args.b (Ok c.wrap_signed-in-Minsi.result) c.in-Minsi.is c.requires.first c.requires.second (ap Some (sym stands)) in
    record { value = given.value; in_type = given.in_type }

pub returns-in-Maxui : goal.returns-in-Maxui
unfolding on_values
returns-in-Maxui c =
    let given = gives_value c.args.op Maxui c.args.w c.args.a c.args.b (Ok c.max-in-Maxui.result) c.in-Maxui.is c.requires.first c.requires.second (ap Some (sym c.max-in-Maxui.ensures)) in
    record { value = given.value; in_type = given.in_type }

pub returns-in-Minui : goal.returns-in-Minui
unfolding on_values
returns-in-Minui c =
    let given = gives_value c.args.op Minui c.args.w c.args.a c.args.b (Ok c.min-in-Minui.result) c.in-Minui.is c.requires.first c.requires.second (ap Some (sym c.min-in-Minui.ensures)) in
    record { value = given.value; in_type = given.in_type }
