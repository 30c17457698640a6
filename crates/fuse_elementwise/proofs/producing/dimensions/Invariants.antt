use Rattle.std.proofs.Common.{◌≡◌, ◌++◌, drop}
use Rattle.affine_maps.specs.Permutation.{dimensions_of}
use Rattle.fuse_elementwise.proofs.producing.dimensions.Given as goal

abbrev pub invariant-loop-e : goal.invariant-loop-e
invariant-loop-e l = l.all ++ dimensions_of (drop l.e-index l.results) ≡ dimensions_of l.results
