use Rattle.std.proofs.Common.{rules, not, ap, FitsSigned, w64}
use Rattle.affine_text.proofs.Multiplying.{terms_then, terms_else, stored_zero}
use Rattle.affine_text.proofs.reading.multiple.Multiple.has_terms.Goals as goal

pub returns-then-not-is_zero : goal.returns-then-not-is_zero
returns-then-not-is_zero c =
    let f : FitsSigned w64 c.args.self.now.by = search rules in
    terms_then c.args.self.now.by c.args.self.now.form c.is_zero.result c.is_empty.result (stored_zero c.args.self.now.by c.is_zero.result f c.is_zero.ensures) (ap not c.if-not-is_zero.true) c.is_empty.ensures

pub returns-else-not-is_zero : goal.returns-else-not-is_zero
returns-else-not-is_zero c =
    let f : FitsSigned w64 c.args.self.now.by = search rules in
    terms_else c.args.self.now.by c.args.self.now.form c.is_zero.result (stored_zero c.args.self.now.by c.is_zero.result f c.is_zero.ensures) (ap not c.if-not-is_zero.false)
