use Rattle.std.proofs.Common.{rules, ◌≡◌, ◌∙◌, ap, FitsSigned, w64}
use Rattle.std.proofs.lemmas.Int.{to_z-of_z}
use Rattle.mlir_base.specs.Numbers.{is_in_range}
use Rattle.affine_text.specs.Collected.{coefficient}
use Rattle.affine_text.proofs.Adding.{sum_coefficient}
use Rattle.affine_text.proofs.reading.collected.Sum.coefficient.Goals as goal

pub returns-clause-in_range : goal.returns-clause-in_range
unfolding coefficient
returns-clause-in_range c =
    let f : FitsSigned w64 c.unwrap_or.result = search rules in
    let e : c.unwrap_or.result ≡ coefficient c.self.inside.terms.entries c.args.dimension = search rules in
    ap is_in_range (to_z-of_z w64 c.unwrap_or.result f ∙ e) ∙ sum_coefficient (record { constant = c.self.inside.constant; terms = c.self.inside.terms.entries }) c.args.dimension c.self.invariant
