use Rattle.std.proofs.Common.{◌≡◌, ◌++◌, drop, map}
use Rattle.std.specs.List.{filter_map, zip}
use Rattle.affine_maps.specs.Compose.{composed_expr}
use Rattle.mlir_verify.specs.Maps.{axis}
use Rattle.fuse_elementwise.proofs.axes.push_composed_axes.Given as goal

abbrev pub invariant-loop-e : goal.invariant-loop-e
invariant-loop-e l =
    l.axes.items ++ filter_map axis (zip (map (composed_expr l.inner.dims l.inner.results) (drop l.e-index l.e-items)) l.left)
    ≡ l.fn.axes.items ++ filter_map axis (zip (map (composed_expr l.inner.dims l.inner.results) l.m.results) l.extents)
