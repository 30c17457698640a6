-- Steps that exchange an operation: by the types in scope and its kind, the rule that is broken, or that it stays, or the kind that it
-- becomes.
use Rattle.std.specs.Prelude.{ℕ, Bool, List, [], ◌∷◌, Option, Some, None, option_map, if◌then◌else◌}
use Rattle.mlir_ir.specs.Count.{find_in}
use Rattle.mlir_ir.specs.declared.tree.Module.{Module}
use Rattle.mlir_ir.specs.declared.tree.Op.{Op}
use Rattle.mlir_ir.specs.declared.tree.OpId.{OpId}
use Rattle.mlir_ir.specs.declared.tree.OpKind.{OpKind}
use Rattle.mlir_verify.specs.Place.{Types, type_among}
use Rattle.verified_runs.specs.Edits.{Step, anew}
use Rattle.verified_runs.specs.Fresh.{fresh_value, fresh_op}
use Rattle.structured_steps.specs.declared.rule.StepRule.{StepRule}
use Rattle.structured_steps.specs.Steps.{Rules, formed}

pub record Exchanging : Type 0 where
  pub breaks : Types → OpKind → Option StepRule
  pub stays : OpKind → Bool
  pub becomes : Types → OpKind → Option OpKind

abbrev pub rules_of : Exchanging → Rules
rules_of e scope o = e.breaks (type_among scope) o.kind

abbrev pub step_of : Exchanging → ℕ → ℕ → Step
step_of e op value scope o = option_map (λ kind. anew op value kind o) (e.becomes (type_among scope) o.kind)

-- the module that it forms, with fresh numbers
abbrev pub formed_by : Exchanging → OpId → Module → Module
formed_by e i m = formed i (step_of e (fresh_op m.funcs) (fresh_value m.funcs)) m

abbrev pub made_of : Exchanging → OpId → Module → Option Op → List OpId
made_of e i m None = []
made_of e i m (Some o) = (if e.stays o.kind then i else record { 0 = fresh_op m.funcs }) ∷ []

-- the operations that stand for the target
abbrev pub made_by : Exchanging → OpId → Module → List OpId
made_by e i m = made_of e i m (find_in i m.funcs)
