use Rattle.std.proofs.Common.{◌≡◌, ◌+◌, ◌-◌, suc, subst, arith}
use Rattle.std.specs.Prelude.{Ok}
use Rattle.pair_laws.specs.FuseAll.{fuse_all}
use Rattle.fuse_elementwise.specs.declared.turn.Turn.{Turn}
use Rattle.fuse_elementwise.specs.Turns.{TurnIs}
use Rattle.fuse_elementwise.proofs.Fusions.{goes, passes_on}
use Rattle.fuse_elementwise.proofs.Going.{counted_on, searched_on}
use Rattle.use_counts.specs.Counts.{count_in}
use Rattle.fuse_elementwise.proofs.turning.fuse_counted.Goals as goal

pub loop-k-preserved : goal.loop-k-preserved
loop-k-preserved c =
    let now = c.loop-k.now in
    let left = c.len-count.result in
    let k = c.loop-k.k in
    let x = subst (λ (t : Turn). TurnIs now (Ok t)) c.in-Ok-Goes.field-0-is c.in-Ok-Goes.ensures in
    let one : left - k ≡ suc (left - (k + 1)) = omega (arith, c.loop-k-test.true) in
    record {
      passes = passes_on now x.0 x.1 c.loop-k.invariant.passes c.in-Ok-Goes.g x.3 x.4;
      searched = searched_on now c.loop-k.invariant.passes x.0 x.1 c.in-Ok-Goes.g c.in-Ok-Goes.change.from x.4 x.5.from;
      counted = counted_on now c.loop-k.invariant.passes x.0 x.1 (count_in c.loop-k.counts) (count_in c.lose.new.counts) c.in-Ok-Goes.g c.in-Ok-Goes.change c.loop-k.invariant.counted x.4 x.5 c.in-Ok.ensures;
      same = goes now x.0 x.1 (left - k) (left - (k + 1)) c.in-Ok-Goes.g (fuse_all c.args.f) one x.2 x.3 x.4 c.loop-k.invariant.same;
    }
