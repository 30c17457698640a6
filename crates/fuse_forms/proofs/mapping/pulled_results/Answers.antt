use Rattle.std.proofs.Common.{ℕ, length, map, ap, ◌∙◌}
use Rattle.affine_maps.specs.Compose.{result_at}
use Rattle.mlir_meaning.specs.Grids.{count_up}
use Rattle.point_laws.specs.Orders.{turned}
use Rattle.fuse_forms.proofs.Composed.{one_more}
use Rattle.fuse_forms.proofs.mapping.pulled_results.Goals as goal

pub loop-d-preserved : goal.loop-d-preserved
loop-d-preserved c =
    let ds = c.args.ds.now in
    let results = c.args.results.now in
    let f = λ (d : ℕ). result_at results (turned ds d) in
    one_more f c.loop-d.all c.push.new.self (map f (count_up 0 (length ds))) c.in_ok-result_at.field-0 c.loop-d.d (length ds)
    c.loop-d-test.true c.in_ok-push.ensures.ok (c.in_ok-result_at.ensures ∙ ap (result_at results) c.turned.ensures) c.loop-d.invariant
