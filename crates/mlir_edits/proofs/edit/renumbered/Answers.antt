use Rattle.std.proofs.Common.{arith}
use Rattle.mlir_edits.proofs.Mapping.{renumbered_goes}
use Rattle.mlir_edits.proofs.edit.renumbered.Goals as goal

pub loop-r-preserved : goal.loop-r-preserved
loop-r-preserved c = record {
  all = renumbered_goes c.args.results.now c.loop-r.all c.push.new.self c.loop-r.r-index c.args.n c.loop-r.next c.r-item.result _ c.loop-r-test.true c.r-item.is c.loop-r.invariant.next
      c.in_ok-ty.ensures c.loop-r.invariant.all c.in_ok-push.ensures.ok;
  next = omega (arith, c.loop-r.invariant.next);
}
