use Rattle.std.proofs.Common.{◌≡◌, true, refl, subst}
use Rattle.affine_maps.specs.declared.map.Expr.{Expr}
use Rattle.affine_text.specs.Multiples.{is_collected}
use Rattle.affine_text.proofs.Adding.{collected_of}
use Rattle.affine_text.proofs.reading.collected.Sum.keeps_order.Goals as goal

pub returns : goal.returns
returns c =
    subst (λ (e : Expr). is_collected e ≡ true) c.self.view_is
    (collected_of c.self.inside.constant c.self.inside.terms.entries c.self.inside.terms.entries c.self.invariant c.len-count.ensures.ordered refl)
