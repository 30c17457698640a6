use Rattle.std.proofs.Common.{◌≡◌, ℕ, drop}
use Rattle.mlir_ir.specs.Count.{first}
use Rattle.mlir_verify.specs.Place.{type_among}
use Rattle.step_passes.specs.Telling.{types_known}
use Rattle.step_passes.proofs.known.KnownTypes.bind.Given as goal

abbrev pub invariant-loop-d : goal.invariant-loop-d
invariant-loop-d l =
    (v : ℕ) → first (type_among (drop l.d-index l.definitions) v) (types_known l.self v) ≡ first (type_among l.definitions v) (types_known l.fn.self v)
