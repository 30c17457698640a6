use Rattle.std.proofs.Common.{◌∙◌, ap, sym}
use Rattle.mlir_resolve.specs.Constants.{and_behind, behind_nested, behind_close}
use Rattle.mlir_resolve.proofs.Nested.{times_step}
use Rattle.mlir_resolve.proofs.dense.+behind_nested.Goals as goal

pub loop-turn-preserved : goal.loop-turn-preserved
loop-turn-preserved t c =
    ap (λ o. and_behind o behind_close) (sym (times_step c.in-Fixed.count c.loop-turn._turn (behind_nested _) c.loop-turn.rest.now c.in-Some-behind_nested.next.now c.loop-turn-test.true (sym c.in-Some-behind_nested.ensures)))
    ∙ c.loop-turn.invariant
