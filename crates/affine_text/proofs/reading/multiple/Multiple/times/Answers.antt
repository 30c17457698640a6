use Rattle.std.proofs.Common.{◌∙◌, sym}
use Rattle.affine_text.proofs.Scaling.{no_product}
use Rattle.affine_text.specs.Multiples.{value_of}
use Rattle.affine_text.proofs.Multiplying.{times_ok, times_far, small_fits, stored_by, stored_product, stored_within, product_fits, multiple_small}
use Rattle.affine_text.proofs.reading.multiple.Multiple.times.Goals as goal

pub returns-then-both_have_terms : goal.returns-then-both_have_terms
returns-then-both_have_terms c = λ at. no_product at (value_of c.args.self) (value_of c.args.other) (sym c.both_have_terms.ensures ∙ c.if-both_have_terms.true)

pub returns-then-is_within : goal.returns-then-is_within
returns-then-is_within c =
    let h = multiple_small c.args.self c.requires.left in
    let k = multiple_small c.args.other c.requires.right in
    let p = stored_product c.args.self.by c.args.other.by c.product-by.result (small_fits c.args.self.by h) (small_fits c.args.other.by k) c.product-by.ensures in
    let f = product_fits c.args.self.by c.args.other.by c.product-by.result h k p in
    times_ok c.args.self c.args.other c.or_other-kept.result c.with_by.result c.has_terms-replaces.result c.product-by.result c.is_within.result c.requires.left c.requires.right (sym c.both_have_terms.ensures ∙ c.if-both_have_terms.false)
    c.has_terms-replaces.ensures c.or_other-kept.ensures p (stored_within c.product-by.result c.or_other-kept.result.greatest c.is_within.result f c.is_within.ensures) c.if-is_within.true
    (stored_by c.or_other-kept.result c.with_by.result c.product-by.result f c.with_by.ensures)

pub returns-else-is_within : goal.returns-else-is_within
returns-else-is_within c =
    let h = multiple_small c.args.self c.requires.left in
    let k = multiple_small c.args.other c.requires.right in
    let p = stored_product c.args.self.by c.args.other.by c.product-by.result (small_fits c.args.self.by h) (small_fits c.args.other.by k) c.product-by.ensures in
    let f = product_fits c.args.self.by c.args.other.by c.product-by.result h k p in
    times_far c.args.self c.args.other c.or_other-kept.result c.has_terms-replaces.result c.product-by.result c.is_within.result c.requires.left c.requires.right (sym c.both_have_terms.ensures ∙ c.if-both_have_terms.false)
    c.has_terms-replaces.ensures c.or_other-kept.ensures p (stored_within c.product-by.result c.or_other-kept.result.greatest c.is_within.result f c.is_within.ensures) c.if-is_within.false
