use Rattle.std.proofs.Common.{◌≡◌, drop}
use Rattle.fuse_elementwise.specs.Spots.{defined_in}
use Rattle.fuse_elementwise.proofs.Searching.{found_from}
use Rattle.fuse_elementwise.proofs.finding.definer.Given as goal

abbrev pub invariant-loop-place : goal.invariant-loop-place
invariant-loop-place l = found_from l.place l.v (drop l.place l.ops) ≡ defined_in l.v l.ops
