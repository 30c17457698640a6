use Rattle.std.proofs.Common.{◌≡◌, IsTrue, drop}
use Rattle.std.specs.List.{list_all, zip}
use Rattle.affine_maps.specs.Map.{expr_fits}
use Rattle.mlir_verify.specs.Stages.{extent_in}
use Rattle.mlir_verify.specs.Windows.{stays_in}
use Rattle.mlir_verify.proofs.windows.stay_in.Given as goal

abbrev pub invariant-loop-e : goal.invariant-loop-e
invariant-loop-e l = record {
  rest : list_all (stays_in (extent_in l.extents)) (zip (drop l.e-index l.results) l.left) ≡ list_all (stays_in (extent_in l.extents)) (zip l.results l.axes);
  fits : IsTrue (list_all (expr_fits l.dims) (drop l.e-index l.results));
}
