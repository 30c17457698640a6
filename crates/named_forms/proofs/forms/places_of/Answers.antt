use Rattle.std.proofs.Common.{arith, ◌+◌, ◌-◌, ◌++◌, [], ◌∷◌, List, ℕ, map, sym, ap, ◌∙◌, append_assoc}
use Rattle.mlir_meaning.specs.Grids.{count_up}
use Rattle.mlir_meaning.specs.Points.{place_of}
use Rattle.named_forms.proofs.Counting.{count_first}
use Rattle.named_forms.proofs.forms.places_of.Goals as goal

pub loop-k-preserved : goal.loop-k-preserved
loop-k-preserved c =
    let k = c.loop-k.k in
    let at : ℕ → ℕ = λ axis. place_of axis 0 c.args.order.now in
    let rest : List ℕ = map at (count_up (k + 1) (c.args.n - (k + 1))) in
    ap (λ (ns : List ℕ). ns ++ rest) (c.in_ok-push.ensures.ok ∙ ap (λ (p : ℕ). c.loop-k.all ++ p ∷ []) c.place_of.ensures)
    ∙ (append_assoc c.loop-k.all (at k ∷ []) rest ∙ (ap (λ (ns : List ℕ). c.loop-k.all ++ map at ns) (sym (count_first k c.args.n (omega arith))) ∙ c.loop-k.invariant))
