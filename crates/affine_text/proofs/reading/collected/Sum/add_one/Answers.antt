use Rattle.std.proofs.Common.{◌≤◌, ◌^◌, ◌∙◌, sym, ap, subst, ◌*ℤ◌, unsigned_abs, w64}
use Rattle.std.proofs.lemmas.Int.{to_z-of_z}
use Rattle.mlir_base.specs.Numbers.{is_in_range}
use Rattle.affine_text.proofs.Multiplying.{multiple_small, range_small, added_number, stored_number, stored_again, small_fits}
use Rattle.affine_text.specs.Multiples.{AddsTerm}
use Rattle.affine_text.proofs.reading.collected.Sum.add_one.Goals as goal

pub product-number-requires-clause-a : goal.product-number-requires-clause-a
product-number-requires-clause-a c = subst (λ n. unsigned_abs n ≤ 2 ^ 31) (sym (to_z-of_z w64 c.args.multiple.now.by (small_fits c.args.multiple.now.by (multiple_small c.args.multiple.now c.requires.multiple)))) (multiple_small c.args.multiple.now c.requires.multiple)

pub product-number-requires-clause-b : goal.product-number-requires-clause-b
product-number-requires-clause-b c = subst (λ n. unsigned_abs n ≤ 2 ^ 31) (sym (stored_again c.args.term.now.1 c.requires.small)) (range_small c.args.term.now.1 c.requires.small)

pub add_term-requires : goal.add_term-requires
add_term-requires c =
    let p = added_number c.args.multiple.now c.args.term.now.1 c.product-number.result c.requires.multiple c.requires.small c.product-number.ensures in
    ap is_in_range (stored_number (c.args.multiple.now.by *ℤ c.args.term.now.1) c.product-number.result p c.requires.in_range) ∙ c.requires.in_range

pub returns : goal.returns
returns c =
    let p = added_number c.args.multiple.now c.args.term.now.1 c.product-number.result c.requires.multiple c.requires.small c.product-number.ensures in
    subst (λ n. AddsTerm c.args.self.now c.args.term.now.0 n c.add_term.result c.add_term.new.self) (stored_number (c.args.multiple.now.by *ℤ c.args.term.now.1) c.product-number.result p c.requires.in_range) c.add_term.ensures
