-- New operations in the place of one, in a module that keeps the verifier's rules then.
use Rattle.std.specs.Prelude.{◌≡◌, true, List, [], ◌∷◌, Some, None, Result, Ok, Err, ⊤, ◌↔◌}
use Rattle.std.specs.List.{list_all}
use Rattle.mlir_ir.specs.declared.tree.Module.{Module}
use Rattle.mlir_ir.specs.declared.tree.Op.{Op}
use Rattle.mlir_ir.specs.declared.tree.OpId.{OpId}
use Rattle.mlir_ir.specs.declared.tree.ValueId.{ValueId}
use Rattle.mlir_meaning.specs.Grids.{Each}
use Rattle.mlir_verify.specs.declared.rule.Rule.{Rule}
use Rattle.mlir_verify.specs.declared.rule.Rule.TheVariants.{V1, V2, V3, V4, V5, V6, V7, V8, V9, V10, V11, V12, V13}
use Rattle.mlir_verify.specs.Place.{places}
use Rattle.mlir_verify.specs.Rules.{lowest, has_body, IsVerified}
use Rattle.verified_runs.specs.Edits.{Edit, Step}
use Rattle.structured_steps.specs.Steps.{formed}
use Rattle.rewrite_base.specs.declared.error.StepError.{StepError}
use Rattle.rewrite_base.specs.declared.error.StepError.TheVariants as Failed
use Rattle.checked_edits.specs.Limits.{first_passed, limits_on_types, limits_in_order}

-- the step that forms the same edit wherever it stands
abbrev pub always : Edit → Step
always e scope o = Some e

abbrev pub edit_of : List Op → List ValueId → Edit
edit_of ops values = record { ops = ops; values = values }

-- the module with new operations in the place of that of a number, and with these values in the place of its results
abbrev pub replaced : OpId → List Op → List ValueId → Module → Module
replaced i ops values m = formed i (always (edit_of ops values)) m

-- all rules but V14, that on limits
abbrev pub rules_before_limits : List Rule
rules_before_limits = V1 ∷ V2 ∷ V3 ∷ V4 ∷ V5 ∷ V6 ∷ V7 ∷ V8 ∷ V9 ∷ V10 ∷ V11 ∷ V12 ∷ V13 ∷ []

-- none of them fails at a place
abbrev pub KeepsRules : Module → Type 0
KeepsRules m = Each (λ p. lowest rules_before_limits p ≡ None) (places m) × (list_all has_body m.funcs ≡ true)

-- a module was formed, or it passes a limit; only want of memory is free
abbrev pub Replaces : Module → Result Module StepError → Type 0
Replaces formed (Ok m) = (first_passed limits_in_order formed.funcs ≡ None) × (m ≡ formed)
Replaces formed (Err (Failed.Rule rule at)) = ⊥
Replaces formed (Err (Failed.Limit which)) = first_passed limits_in_order formed.funcs ≡ Some which
Replaces formed (Err Failed.Memory) = ⊤

-- the last rule, V14, asks just what the limits on types and dimensions do
abbrev pub LimitsAreTheLastRule : Type 0
LimitsAreTheLastRule = (m : Module) → IsVerified m ↔ (KeepsRules m × (first_passed limits_on_types m.funcs ≡ None))
