use Rattle.std.proofs.Common.{arith, ◌+◌, ◌-◌, ◌++◌, [], ◌∷◌, List, ℕ, sym, ap, ◌∙◌, append_assoc}
use Rattle.mlir_meaning.specs.Grids.{count_up}
use Rattle.mlir_meaning.specs.Points.{kept}
use Rattle.named_forms.proofs.Counting.{count_first, kept_first}
use Rattle.named_forms.proofs.forms.kept_axes.Goals as goal

pub loop-k-preserved : goal.loop-k-preserved
loop-k-preserved c =
    let k = c.loop-k.k in
    let named = c.args.named.now in
    let left : List ℕ = count_up (k + 1) (c.args.n - (k + 1)) in
    let rest : List ℕ = kept named (k + 1) left in
    ap (λ (ns : List ℕ). ns ++ rest) c.in_ok-push_kept.ensures
    ∙ (append_assoc c.loop-k.all (kept named k (k ∷ [])) rest
    ∙ (ap (λ (ns : List ℕ). c.loop-k.all ++ ns) (sym (kept_first named k left) ∙ ap (kept named k) (sym (count_first k c.args.n (omega arith)))) ∙ c.loop-k.invariant))
