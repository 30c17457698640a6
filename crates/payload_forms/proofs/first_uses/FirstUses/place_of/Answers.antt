use Rattle.std.proofs.Common.{◌≡◌, ◌+◌, ℕ, List, length, sym, ap, ◌∙◌, arith}
use Rattle.mlir_meaning.specs.Points.{place_of}
use Rattle.payload_forms.proofs.Places.{or_end, place_is}
use Rattle.payload_forms.proofs.first_uses.FirstUses.place_of.Goals as goal

pub returns-in-Some : goal.returns-in-Some
returns-in-Some c =
    let order : List ℕ = c.self.inside.order.items in
    ap (or_end (0 + length order)) (c.in-Some.ensures.value ∙ c.self.invariant c.args.n) ∙ sym (place_is 0 order c.args.n)
    ∙ ap (λ (ns : List ℕ). place_of c.args.n 0 ns) c.self.view_is

pub returns-in-None : goal.returns-in-None
returns-in-None c =
    let order : List ℕ = c.self.inside.order.items in
    let all : c.len.result ≡ 0 + length order = omega (arith, c.len.ensures) in
    all ∙ ap (or_end (0 + length order)) (c.in-None.ensures.value ∙ c.self.invariant c.args.n) ∙ sym (place_is 0 order c.args.n)
    ∙ ap (λ (ns : List ℕ). place_of c.args.n 0 ns) c.self.view_is
