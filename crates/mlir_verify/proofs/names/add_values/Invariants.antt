use Rattle.std.proofs.Common.{ℕ, List, drop, map}
use Rattle.mlir_verify.specs.Scope.{IsSet}
use Rattle.mlir_verify.proofs.Adding.{Adding}
use Rattle.mlir_verify.proofs.names.add_values.Given as goal

abbrev pub invariant-loop-v : goal.invariant-loop-v
invariant-loop-v l = (known : List ℕ) → IsSet l.fn.set known → Adding l.set (map (λ v. v.0) (drop l.v-index l.values)) (map (λ v. v.0) l.values) known
