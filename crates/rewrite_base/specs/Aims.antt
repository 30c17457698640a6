-- What a step is about to do with a module, before limits are tested.
use Rattle.std.specs.Prelude.{◌≡◌, List, [], ◌∷◌, Option, Some, None, Result, Ok, Err, ⊤, IsSome}
use Rattle.mlir_base.specs.declared.memory.Memory.{Memory}
use Rattle.mlir_ir.specs.declared.tree.Module.{Module}
use Rattle.mlir_ir.specs.declared.tree.OpId.{OpId}
use Rattle.mlir_edits.specs.Places.{op_at}
use Rattle.mlir_verify.specs.Rules.{IsVerified}
use Rattle.structured_steps.specs.Steps.{Rules, broken_of}
use Rattle.rewrite_base.specs.declared.aim.Aim.{Aim}
use Rattle.rewrite_base.specs.declared.aim.Aim.TheVariants.{Breaks, Stays, Becomes}
use Rattle.rewrite_base.specs.declared.error.StepError.{StepError}
use Rattle.rewrite_base.specs.declared.error.StepError.TheVariants as Failed
use Rattle.rewrite_base.specs.declared.made.Made.{Made}
use Rattle.rewrite_base.specs.Answers.{new_op}
use Rattle.rewrite_base.specs.Exchanged.{exchanged}
use Rattle.rewrite_base.specs.Limits.{limit_of, passed}

-- a rule is broken; or none, and the module stays with its target, or the target becomes another operation
abbrev pub AimsAt : Rules → OpId → Module → Module → List OpId → Aim → Type 0
AimsAt rules i m formed ops (Breaks rule) = broken_of i rules m ≡ Some rule
AimsAt rules i m formed ops Stays = (broken_of i rules m ≡ None) × (formed ≡ m) × (ops ≡ i ∷ [])
AimsAt rules i m formed ops (Becomes p kind) =
    (broken_of i rules m ≡ None) × IsSome (op_at p m.funcs) × (formed ≡ exchanged p kind m) × (ops ≡ new_op m ∷ [])

-- what is about to be formed verifies
abbrev pub AimVerifies : Module → Aim → Type 0
AimVerifies m (Breaks rule) = ⊤
AimVerifies m Stays = ⊤
AimVerifies m (Becomes p kind) = IsSome (op_at p m.funcs) × IsVerified (exchanged p kind m)

-- a module was formed, or it passes a limit
abbrev pub Forms : Module → Module → List OpId → Result (Module × Made) StepError → Type 0
Forms m formed ops (Ok x) = (limit_of m formed ≡ None) × (x.0 ≡ formed) × (x.1.ops ≡ ops)
Forms m formed ops (Err (Failed.Rule rule at)) = ⊥
Forms m formed ops (Err (Failed.Limit which)) = limit_of m formed ≡ Some which
Forms m formed ops (Err Failed.Memory) = ⊤

-- the same of a module whose numbers are small
abbrev pub WithinLimits : Module → Made → Result (Module × Made) StepError → Type 0
WithinLimits m made (Ok x) = (passed m.funcs ≡ None) × (x.0 ≡ m) × (x.1 ≡ made)
WithinLimits m made (Err (Failed.Rule rule at)) = ⊥
WithinLimits m made (Err (Failed.Limit which)) = passed m.funcs ≡ Some which
WithinLimits m made (Err Failed.Memory) = ⊥
