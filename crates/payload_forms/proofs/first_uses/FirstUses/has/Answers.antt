use Rattle.std.proofs.Common.{ℕ, List, is_some, sym, ap, ◌∙◌}
use Rattle.mlir_meaning.specs.Points.{has}
use Rattle.payload_forms.proofs.Places.{has_place}
use Rattle.payload_forms.proofs.first_uses.FirstUses.has.Goals as goal

pub returns : goal.returns
returns c =
    c.contains_key.ensures ∙ ap is_some (c.self.invariant c.args.n) ∙ sym (has_place 0 c.self.inside.order.items c.args.n)
    ∙ ap (λ (ns : List ℕ). has ns c.args.n) c.self.view_is
