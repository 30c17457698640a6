use Rattle.std.proofs.Common.{◌≤◌, ◌^◌, ◌∙◌, true, sym, ap, subst, ◌+ℤ◌, ◌*ℤ◌, unsigned_abs, w64}
use Rattle.std.proofs.lemmas.Int.{to_z-of_z}
use Rattle.mlir_base.specs.Numbers.{is_in_range}
use Rattle.affine_maps.specs.declared.map.Expr.{Expr}
use Rattle.affine_text.specs.Collected.{plus_terms, terms_in_range}
use Rattle.affine_text.specs.Multiples.{times_terms}
use Rattle.affine_text.proofs.Adding.{terms_added, terms_left_range}
use Rattle.affine_text.proofs.Multiplying.{multiple_constant, multiple_small, constant_small, added_number, constant_in, other_than_zero, stored_sum, stored_number, adds_nothing, constant_far, terms_far, adds_all, stored_zero, small_fits}
use Rattle.affine_text.proofs.reading.collected.Sum.add_multiple.Goals as goal

pub returns-then-is_zero : goal.returns-then-is_zero
returns-then-is_zero c =
    let f = small_fits c.args.multiple.now.by (multiple_small c.args.multiple.now c.requires) in
    adds_nothing c.args.self.now c.args.multiple.now c.keeps_range.ensures (sym (stored_zero c.args.multiple.now.by c.is_zero.result f c.is_zero.ensures) ∙ c.if-is_zero.true)

pub product-number-requires-clause-b : goal.product-number-requires-clause-b
product-number-requires-clause-b c =
    let h = constant_small c.args.multiple.now c.requires in
    subst (λ n. unsigned_abs n ≤ 2 ^ 31) (sym (to_z-of_z w64 c.args.multiple.now.form.constant (small_fits c.args.multiple.now.form.constant h))) h

pub add_constant-requires : goal.add_constant-requires
add_constant-requires c =
    let z = other_than_zero c.args.multiple.now c.is_zero.result c.requires c.is_zero.ensures c.if-is_zero.false in
    let p = added_number c.args.multiple.now c.args.multiple.now.form.constant c.product-number.result c.requires (constant_in c.args.multiple.now c.requires) c.product-number.ensures in
    let n = stored_number (c.args.multiple.now.by *ℤ c.args.multiple.now.form.constant) c.product-number.result p (multiple_constant c.args.multiple.now c.requires) in
    ap is_in_range n ∙ multiple_constant c.args.multiple.now c.requires

pub returns-then-not-add_constant : goal.returns-then-not-add_constant
returns-then-not-add_constant c =
    let z = other_than_zero c.args.multiple.now c.is_zero.result c.requires c.is_zero.ensures c.if-is_zero.false in
    let p = added_number c.args.multiple.now c.args.multiple.now.form.constant c.product-number.result c.requires (constant_in c.args.multiple.now c.requires) c.product-number.ensures in
    let n = stored_number (c.args.multiple.now.by *ℤ c.args.multiple.now.form.constant) c.product-number.result p (multiple_constant c.args.multiple.now c.requires) in
    constant_far c.args.self.now c.args.multiple.now z (ap (λ x. is_in_range (c.args.self.now.constant +ℤ x)) (sym n) ∙ sym c.add_constant.ensures.exact ∙ c.if-not-add_constant.true)

pub returns-then-not-branch : goal.returns-then-not-branch
returns-then-not-branch c =
    let z = other_than_zero c.args.multiple.now c.is_zero.result c.requires c.is_zero.ensures c.if-is_zero.false in
    let p = added_number c.args.multiple.now c.args.multiple.now.form.constant c.product-number.result c.requires (constant_in c.args.multiple.now c.requires) c.product-number.ensures in
    let n = stored_number (c.args.multiple.now.by *ℤ c.args.multiple.now.form.constant) c.product-number.result p (multiple_constant c.args.multiple.now c.requires) in
    let q = c.if-not-add_constant.ensures.done in
    terms_far c.args.self.now c.args.multiple.now z
    (ap (λ (x : Expr). terms_in_range (plus_terms x.terms (times_terms c.args.multiple.now.by c.args.multiple.now.form.terms))) (sym q)
    ∙ terms_left_range c.add_constant.new.self (times_terms c.args.multiple.now.by c.args.multiple.now.form.terms) c.in_ok-add_terms.field-0 c.add_terms.new.self c.if-not-branch.true c.in_ok-add_terms.ensures)

pub returns : goal.returns
returns c =
    let z = other_than_zero c.args.multiple.now c.is_zero.result c.requires c.is_zero.ensures c.if-is_zero.false in
    let p = added_number c.args.multiple.now c.args.multiple.now.form.constant c.product-number.result c.requires (constant_in c.args.multiple.now c.requires) c.product-number.ensures in
    let n = stored_number (c.args.multiple.now.by *ℤ c.args.multiple.now.form.constant) c.product-number.result p (multiple_constant c.args.multiple.now c.requires) in
    let q = c.if-not-add_constant.ensures.done in
    adds_all c.args.self.now c.add_terms.new.self c.args.multiple.now z c.keeps_range-2.ensures
    (stored_sum c.args.self.now c.add_constant.new.self c.add_terms.new.self c.args.multiple.now _ true c.requires n q
    (terms_added c.add_constant.new.self (times_terms c.args.multiple.now.by c.args.multiple.now.form.terms) c.in_ok-add_terms.field-0 c.add_terms.new.self c.if-not-branch.false c.in_ok-add_terms.ensures))
