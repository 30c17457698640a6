use Rattle.std.proofs.Common.{◌+◌, ◌-◌, ◌++◌, [], ◌∷◌, List, ℕ, map, sym, ap, ◌∙◌, append_assoc, arith}
use Rattle.payload_ops.specs.declared.step.PayloadStep.{PayloadStep}
use Rattle.mlir_meaning.specs.Grids.{count_up}
use Rattle.payload_forms.specs.Moved.{captured_step}
use Rattle.payload_forms.proofs.Tables.{count_next}
use Rattle.payload_forms.proofs.moving.push_captured.Goals as goal

pub loop-k-preserved : goal.loop-k-preserved
loop-k-preserved c =
    let first = c.args.first in
    let k = c.loop-k.k in
    let count = c.args.count in
    let rest : List PayloadStep = map captured_step (count_up (first + (k + 1)) (count - (k + 1))) in
    ap (λ (ss : List PayloadStep). ss ++ rest)
    (c.in_ok-push.ensures.ok
    ∙ ap (λ (s : PayloadStep). c.loop-k.steps ++ s ∷ []) (c.captured_step.ensures ∙ ap captured_step (c.in_ok-number.ensures.value ∙ c.in_ok-at.ensures)))
    ∙ (append_assoc c.loop-k.steps (captured_step (first + k) ∷ []) rest
    ∙ (ap (λ (ns : List ℕ). c.loop-k.steps ++ map captured_step ns) (sym (count_next first k count (omega arith))) ∙ c.loop-k.invariant))
