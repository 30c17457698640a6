-- What the two steps form verifies.
use Rattle.std.specs.Prelude.{ℕ, List}
use Rattle.mlir_ir.specs.declared.tree.Module.{Module}
use Rattle.mlir_ir.specs.declared.tree.OpId.{OpId}
use Rattle.mlir_verify.specs.Rules.{IsVerified}
use Rattle.structured_steps.specs.Steps.{generalized, interchanged_in}
use Rattle.step_results.proofs.Generalized as generalizing
use Rattle.step_results.proofs.Interchanged as interchanging

pub generalized_verifies : (m : Module) (i : OpId) → IsVerified m → IsVerified (generalized i m)
generalized_verifies m i v = generalizing.generalized_verifies m i v

pub interchanged_verifies : (m : Module) (i : OpId) (order : List ℕ) → IsVerified m → IsVerified (interchanged_in i order m)
interchanged_verifies m i order v = interchanging.interchanged_verifies m i order v
