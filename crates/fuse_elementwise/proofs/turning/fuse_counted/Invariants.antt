use Rattle.std.proofs.Common.{◌≡◌, ◌-◌}
use Rattle.verified_runs.specs.Passes.{FuncPasses}
use Rattle.pair_laws.specs.FuseAll.{fuse_all, fuse_from}
use Rattle.fuse_elementwise.specs.Spots.{IsCounted, IsSearched}
use Rattle.use_counts.specs.Counts.{count_in}
use Rattle.fuse_elementwise.proofs.turning.fuse_counted.Given as goal

abbrev pub invariant-loop-k : goal.invariant-loop-k
invariant-loop-k l = record {
  passes : FuncPasses l.now;
  counted : IsCounted (count_in l.counts) l.now.body;
  searched : IsSearched l.now l.from;
  same : fuse_from (l.count - l.k) l.now ≡ fuse_all l.fn.f;
}
