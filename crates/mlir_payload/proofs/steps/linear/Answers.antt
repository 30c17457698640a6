use Rattle.std.proofs.Common.{◌≡◌, ℕ, ℤ, List, true, length, pos, subst, sym}
use Rattle.affine_maps.specs.Map.{terms_fit}
use Rattle.mlir_payload.proofs.Applied.{below_at}
use Rattle.mlir_payload.proofs.steps.linear.Goals as goal

pub term_on-requires : goal.term_on-requires
term_on-requires c =
    let count = length c.args.arguments.now in
    below_at count 0 c.as_slice-term-items.result.now c.loop-term.term-index (0, pos 0)
    (subst (λ (ts : List (ℕ × ℤ)). terms_fit count ts 0 ≡ true) (sym c.as_slice-term-items.ensures) c.requires) c.loop-term-test.true
