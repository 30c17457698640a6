use Rattle.std.proofs.Common.{◌+◌, ◌-◌, ◌++◌, [], ◌∷◌, List, ℕ, map, get_or, sym, ap, ◌∙◌, append_assoc, arith}
use Rattle.mlir_meaning.specs.Grids.{count_up}
use Rattle.mlir_meaning.specs.Points.{place_of}
use Rattle.payload_forms.proofs.Tables.{count_first}
use Rattle.payload_forms.proofs.placing.Uses.numbers.Goals as goal

pub loop-k-preserved : goal.loop-k-preserved
loop-k-preserved c =
    let k = c.loop-k.k in
    let n = c.args.self.now.captured in
    let at : ℕ → ℕ = λ i. get_or c.args.self.now.spots (place_of i 0 c.args.self.now.seen) 0 in
    let rest : List ℕ = map at (count_up (k + 1) (n - (k + 1))) in
    ap (λ (ns : List ℕ). ns ++ rest) (c.in_ok-push.ensures.ok ∙ ap (λ (p : ℕ). c.loop-k.all ++ p ∷ []) c.spot.ensures)
    ∙ (append_assoc c.loop-k.all (at k ∷ []) rest
    ∙ (ap (λ (ns : List ℕ). c.loop-k.all ++ map at ns) (sym (count_first k n (omega arith))) ∙ c.loop-k.invariant))
