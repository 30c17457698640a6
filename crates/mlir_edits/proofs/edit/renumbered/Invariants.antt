use Rattle.std.proofs.Common.{◌≡◌, ◌+◌, take}
use Rattle.verified_runs.specs.Edits.{renumbered}
use Rattle.mlir_edits.proofs.edit.renumbered.Given as goal

abbrev pub invariant-loop-r : goal.invariant-loop-r
invariant-loop-r l = record {
  all : l.all ≡ renumbered l.n (take l.r-index l.results);
  next : l.next ≡ l.n + l.r-index;
}
