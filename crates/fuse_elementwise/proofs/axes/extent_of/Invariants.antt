use Rattle.std.proofs.Common.{◌≡◌, drop}
use Rattle.mlir_verify.specs.Maps.{extent_of}
use Rattle.fuse_elementwise.proofs.axes.extent_of.Given as goal

abbrev pub invariant-loop-a : goal.invariant-loop-a
invariant-loop-a l = extent_of (drop l.a-index l.axes) l.d ≡ extent_of l.axes l.d
