use Rattle.std.proofs.Common.{◌≡◌, ◌++◌, drop}
use Rattle.std.specs.List.{filter_map, zip}
use Rattle.mlir_verify.specs.Maps.{axis}
use Rattle.fuse_elementwise.proofs.axes.push_axes.Given as goal

abbrev pub invariant-loop-e : goal.invariant-loop-e
invariant-loop-e l = l.axes.items ++ filter_map axis (zip (drop l.e-index l.results) l.left) ≡ l.fn.axes.items ++ filter_map axis (zip l.results l.extents)
