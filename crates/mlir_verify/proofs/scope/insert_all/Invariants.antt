use Rattle.std.proofs.Common.{ℕ, List, ◌++◌, take}
use Rattle.mlir_verify.specs.Names.{numbers}
use Rattle.mlir_verify.specs.Scope.{IsSet}
use Rattle.mlir_verify.proofs.scope.insert_all.Given as goal

abbrev pub invariant-loop-d : goal.invariant-loop-d
invariant-loop-d l = (known : List ℕ) → IsSet l.fn.set known → IsSet l.set (known ++ numbers (take l.d-index l.definitions))
