use Rattle.std.proofs.Common.{ℕ, List, drop}
use Rattle.mlir_verify.specs.Names.{numbers}
use Rattle.mlir_verify.specs.Scope.{IsSet}
use Rattle.mlir_verify.proofs.Adding.{Adding}
use Rattle.mlir_verify.proofs.names.add_definitions.Given as goal

abbrev pub invariant-loop-d : goal.invariant-loop-d
invariant-loop-d l = (known : List ℕ) → IsSet l.fn.set known → Adding l.set (numbers (drop l.d-index l.definitions)) (numbers l.definitions) known
