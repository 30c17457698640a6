use Rattle.std.proofs.Common.{◌≡◌, ◌∷◌, ◌++◌, [], length, ℕ, List, sym, ap, ◌∙◌, arith}
use Rattle.script_text.specs.declared.names.Row.{Row}
use Rattle.script_text.specs.Names.{row, spot}
use Rattle.script_text.proofs.Spots.{added}
use Rattle.script_text.proofs.names.Rows.add.Goals as goal

pub invariant_of-self-in-Ok : goal.invariant_of-self-in-Ok
invariant_of-self-in-Ok c =
    let n : c.len-at.result ≡ length c.self.inside.rows.items = omega (arith, c.len-at.ensures) in
    λ v. added c.self.inside.rows.items (row c.args.handle c.args.name) _ _ c.len-at.result (λ q. c.in-Ok.ensures.updates.0 q) n c.self.invariant v
    ∙ ap (λ (rs : List Row). spot 0 rs v) (sym c.in_ok-push.ensures.items)
