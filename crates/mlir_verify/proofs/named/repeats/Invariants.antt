use Rattle.std.proofs.Common.{◌≡◌, drop}
use Rattle.affine_maps.specs.Permutation.{repeats}
use Rattle.mlir_verify.proofs.named.repeats.Given as goal

abbrev pub invariant-loop-i : goal.invariant-loop-i
invariant-loop-i l = repeats l.ns ≡ repeats (drop l.i l.ns)
