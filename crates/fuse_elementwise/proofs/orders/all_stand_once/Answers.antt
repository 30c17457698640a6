use Rattle.std.proofs.Common.{◌≡◌, ◌∙◌, ◌+◌, ◌-◌, ◌&&◌, ℕ, List, true, ap, sym, arith}
use Rattle.std.specs.List.{list_all}
use Rattle.mlir_meaning.specs.Grids.{count_up}
use Rattle.point_laws.specs.Orders.{stands_once}
use Rattle.named_forms.proofs.Counting.{count_first}
use Rattle.fuse_elementwise.proofs.orders.all_stand_once.Goals as goal

pub loop-k-preserved : goal.loop-k-preserved
loop-k-preserved c =
    let k : ℕ = c.loop-k.k in
    let n : ℕ = c.args.n in
    let once = stands_once c.args.order.now n in
    let rest : List ℕ = count_up (k + 1) (n - (k + 1)) in
    let stands : true ≡ once k = sym c.if-not-stands_once.false ∙ c.stands_once.ensures in
    (λ j. stands j && list_all once rest) ∙ ap (list_all once) (sym (count_first k n (omega arith))) ∙ c.loop-k.invariant
