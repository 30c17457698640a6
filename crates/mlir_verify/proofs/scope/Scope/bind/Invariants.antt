use Rattle.std.proofs.Common.{◌≡◌, ℕ, drop}
use Rattle.mlir_ir.specs.Count.{first}
use Rattle.mlir_verify.specs.Place.{type_among}
use Rattle.mlir_verify.specs.Scope.{types_in}
use Rattle.mlir_verify.proofs.scope.Scope.bind.Given as goal

abbrev pub invariant-loop-d : goal.invariant-loop-d
invariant-loop-d l = record {
  types : (v : ℕ) → first (type_among (drop l.d-index l.definitions) v) (types_in l.self v) ≡ first (type_among l.definitions v) (types_in l.fn.self v);
  constants : l.self.constants ≡ l.fn.self.constants;
}
