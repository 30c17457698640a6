use Rattle.std.proofs.Common.{ℕ, ◌∙◌, ap, pos}
use Rattle.affine_text.proofs.Scaling.{scaled_one}
use Rattle.affine_text.proofs.Multiplying.{form_holds, constant_alone, collected_constant, stored_constant}
use Rattle.mlir_base.specs.Numbers.{is_in_range}
use Rattle.affine_text.specs.Collected.{constant_form}
use Rattle.affine_text.specs.declared.reading.multiple.Multiple.{Multiple}
use Rattle.affine_text.proofs.reading.multiple.Multiple.of_form.Goals as goal

pub returns-clause-value : goal.returns-clause-value
returns-clause-value c = scaled_one c.args.form

pub returns-clause-holds : goal.returns-clause-holds
returns-clause-holds c =
    let made : ℕ → Multiple = λ g. record { by = pos 1; form = c.args.form; greatest = g } in
    form_holds c.is_empty.result (made c.greatest_of-greatest.result) c.args.form c.requires c.is_empty.ensures c.if-is_empty.false (ap made c.greatest_of-greatest.ensures)

pub returns-then-is_empty-clause-value : goal.returns-then-is_empty-clause-value
returns-then-is_empty-clause-value c = c.of_number.ensures.value ∙ ap constant_form (stored_constant c.args.form c.requires) ∙ constant_alone c.is_empty.result c.args.form c.is_empty.ensures c.if-is_empty.true

pub of_number-requires : goal.of_number-requires
of_number-requires c = ap is_in_range (stored_constant c.args.form c.requires) ∙ collected_constant c.args.form c.requires
