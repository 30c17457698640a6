use Rattle.std.proofs.Common.{◌≡◌, ◌+◌, ℕ, List, Some, cond, false, length, nat_eq, sym, ap, ◌∙◌, arith}
use Rattle.mlir_meaning.specs.Points.{has}
use Rattle.payload_forms.specs.Places.{place_from}
use Rattle.payload_forms.proofs.Places.{place_last}
use Rattle.payload_forms.proofs.first_uses.FirstUses.add.Goals as goal

pub invariant_of-self-in-Ok : goal.invariant_of-self-in-Ok
invariant_of-self-in-Ok c =
    let order : List ℕ = c.self.inside.order.items in
    let at : c.len-at.result ≡ 0 + length order = omega (arith, c.len-at.ensures) in
    let new : has order c.args.n ≡ false = ap (λ (ns : List ℕ). has ns c.args.n) c.self.view_is ∙ c.requires in
    λ n. c.in-Ok.ensures.updates.0 n
    ∙ (λ i. cond (nat_eq c.args.n n) (Some (at i)) (c.self.invariant n i))
    ∙ sym (place_last 0 order c.args.n n new)
    ∙ ap (λ (ns : List ℕ). place_from 0 ns n) (sym c.in_ok-push.ensures.items)
