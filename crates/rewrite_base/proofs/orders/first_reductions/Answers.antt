use Rattle.std.proofs.Common.{◌≡◌, ◌∙◌, ◌+◌, ◌-◌, ◌++◌, [], ◌∷◌, ℕ, List, ap, sym, arith, append_assoc}
use Rattle.std.proofs.lemmas.List.Elements.{filter-append}
use Rattle.mlir_meaning.specs.Grids.{count_up}
use Rattle.structured_steps.specs.Interchange.{reductions_in, is_reduction, iterator_at}
use Rattle.named_forms.proofs.Counting.{count_first}
use Rattle.rewrite_base.proofs.orders.first_reductions.Goals as goal

pub loop-d-preserved : goal.loop-d-preserved
loop-d-preserved c =
    let d : ℕ = c.loop-d.d in
    let its = c.args.iterators.now in
    let left : List ℕ = count_up (d + 1) (c.args.n - (d + 1)) in
    let rest : List ℕ = reductions_in its left in
    ap (λ (ns : List ℕ). ns ++ rest) c.in_ok-push_reduction.ensures
    ∙ append_assoc c.loop-d.all (reductions_in its (d ∷ [])) rest
    ∙ ap (λ (ns : List ℕ). c.loop-d.all ++ ns) (sym (filter-append (λ e. is_reduction (iterator_at its e)) (d ∷ []) left) ∙ ap (reductions_in its) (sym (count_first d c.args.n (omega arith))))
    ∙ c.loop-d.invariant
