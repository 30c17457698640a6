use Rattle.std.proofs.Common.{take}
use Rattle.affine_maps.specs.Permutation.{dimensions_of}
use Rattle.mlir_verify.specs.Scope.{IsSet}
use Rattle.mlir_verify.proofs.maps.dimensions.Given as goal

abbrev pub invariant-loop-e : goal.invariant-loop-e
invariant-loop-e l = IsSet l.set (dimensions_of (take l.e-index l.results))
