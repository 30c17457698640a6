-- The laws of what steps form. Each is the contract of a function in `src/laws.rt`.
use Rattle.std.specs.Prelude.{ℕ, List, ◌↔◌}
use Rattle.mlir_ir.specs.declared.tree.Module.{Module}
use Rattle.mlir_ir.specs.declared.tree.OpId.{OpId}
use Rattle.mlir_verify.specs.Rules.{IsVerified}
use Rattle.verified_runs.specs.Edits.{Step}
use Rattle.verified_runs.specs.Fresh.{fresh_value, fresh_op}
use Rattle.structured_steps.specs.Steps.{formed, generalized, interchanged_in}
use Rattle.step_results.specs.Modules.{ModulePasses}
use Rattle.step_results.specs.Edits.{Fits}

-- the rules on places, put together by functions
abbrev pub VerifiedByFunctions : Type 0
VerifiedByFunctions = (m : Module) → IsVerified m ↔ ModulePasses m

-- once for all steps
abbrev pub EditsVerify : Type 0
EditsVerify = (m : Module) (i : OpId) (step : Step) → IsVerified m → Fits (fresh_value m.funcs) (fresh_op m.funcs) step → IsVerified (formed i step m)

-- where a rule of the step is broken, or the operation isn't there, the module is as it was
abbrev pub GeneralizedVerifies : Type 0
GeneralizedVerifies = (m : Module) (i : OpId) → IsVerified m → IsVerified (generalized i m)

abbrev pub InterchangedVerifies : Type 0
InterchangedVerifies = (m : Module) (i : OpId) (order : List ℕ) → IsVerified m → IsVerified (interchanged_in i order m)
