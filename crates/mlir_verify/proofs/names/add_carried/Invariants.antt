use Rattle.std.proofs.Common.{ℕ, List, drop, map}
use Rattle.mlir_verify.specs.Scope.{IsSet}
use Rattle.mlir_verify.proofs.Adding.{Adding}
use Rattle.mlir_verify.proofs.names.add_carried.Given as goal

abbrev pub invariant-loop-c : goal.invariant-loop-c
invariant-loop-c l = (known : List ℕ) → IsSet l.fn.set known → Adding l.set (map (λ c. (c.0).0) (drop l.c-index l.carried)) (map (λ c. (c.0).0) l.carried) known
