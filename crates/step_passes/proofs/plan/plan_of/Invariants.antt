use Rattle.std.proofs.Common.{◌≡◌, [], drop}
use Rattle.rewrite_base.specs.Limits.{passed}
use Rattle.verified_runs.specs.Fresh.{fresh_value, fresh_op}
use Rattle.step_passes.specs.Drafting.{comes_to}
use Rattle.step_passes.specs.Planned.{planned}
use Rattle.step_passes.specs.Telling.{exchanging}
use Rattle.step_passes.proofs.Drafts.{AreLeft}
use Rattle.step_passes.proofs.plan.plan_of.Given as goal

abbrev pub invariant-loop-op : goal.invariant-loop-op
invariant-loop-op l = record {
  whole : comes_to l.draft (planned (exchanging l.step) l.m (drop l.op-index l.ops))
      ≡ planned (exchanging l.step) l.m l.ops [] (fresh_value l.m.funcs) (fresh_op l.m.funcs);
  left : AreLeft (exchanging l.step) l.m l.index (drop l.op-index l.ops);
  own : l.own ≡ passed l.m.funcs;
}
