use Rattle.std.proofs.Common.{negsuc, lit≤}
use Rattle.affine_text.proofs.Multiplying.{negated_value, negated_holds, small_fits, stored_by, stored_product, product_fits, multiple_small}
use Rattle.affine_text.proofs.reading.multiple.Multiple.negated.Goals as goal

pub returns-clause-value : goal.returns-clause-value
returns-clause-value c =
    let h = multiple_small c.args.self c.requires in
    let p = stored_product (negsuc 0) c.args.self.by c.product-by.result (small_fits (negsuc 0) (lit≤ tt)) (small_fits c.args.self.by h) c.product-by.ensures in
    let f = product_fits (negsuc 0) c.args.self.by c.product-by.result (lit≤ tt) h p in
    negated_value c.args.self c.with_by.result c.product-by.result (stored_by c.args.self c.with_by.result c.product-by.result f c.with_by.ensures) p

pub returns-clause-holds : goal.returns-clause-holds
returns-clause-holds c =
    let h = multiple_small c.args.self c.requires in
    let p = stored_product (negsuc 0) c.args.self.by c.product-by.result (small_fits (negsuc 0) (lit≤ tt)) (small_fits c.args.self.by h) c.product-by.ensures in
    let f = product_fits (negsuc 0) c.args.self.by c.product-by.result (lit≤ tt) h p in
    negated_holds c.args.self c.with_by.result c.product-by.result c.requires (stored_by c.args.self c.with_by.result c.product-by.result f c.with_by.ensures) p
