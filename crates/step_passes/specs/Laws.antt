-- That one pass gives what the step gives at each operation in turn.
use Rattle.std.specs.Prelude.{◌≡◌, ℕ, true, List}
use Rattle.mlir_ir.specs.declared.tree.Module.{Module}
use Rattle.mlir_ir.specs.declared.tree.OpId.{OpId}
use Rattle.mlir_verify.specs.Rules.{IsVerified}
use Rattle.step_passes.specs.Exchanging.{Exchanging}
use Rattle.step_passes.specs.Steps.{generalizing, interchanging}
use Rattle.step_passes.specs.Sequences.{exchanged_at, at_each, are_targets}
use Rattle.step_passes.specs.Planned.{one_pass}

abbrev pub IsOnePass : Exchanging → Type 0
IsOnePass e = (m : Module) (is : List OpId) → IsVerified m → are_targets m is ≡ true → at_each (exchanged_at e) is m ≡ one_pass e is m

abbrev pub GeneralizeIsOnePass : Type 0
GeneralizeIsOnePass = IsOnePass generalizing

abbrev pub InterchangeIsOnePass : Type 0
InterchangeIsOnePass = (order : List ℕ) → IsOnePass (interchanging order)
