use Rattle.std.proofs.Common.{◌≡◌, take, map}
use Rattle.mlir_resolve.proofs.generics.ids.Given as goal

abbrev pub invariant-loop-value : goal.invariant-loop-value
invariant-loop-value l = l.found ≡ map (λ v. v.0) (take l.value-index l.values)
