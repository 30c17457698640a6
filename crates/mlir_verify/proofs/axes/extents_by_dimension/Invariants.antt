use Rattle.std.proofs.Common.{◌≡◌, ℕ, drop}
use Rattle.mlir_ir.specs.Count.{first}
use Rattle.mlir_verify.specs.Maps.{extent_of}
use Rattle.mlir_verify.specs.Stages.{extent_in}
use Rattle.mlir_verify.proofs.axes.extents_by_dimension.Given as goal

abbrev pub invariant-loop-a : goal.invariant-loop-a
invariant-loop-a l = (d : ℕ) → first (extent_in l.extents d) (extent_of (drop l.a-index l.axes) d) ≡ extent_of l.axes d
