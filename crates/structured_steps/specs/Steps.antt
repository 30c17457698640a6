-- What a step answers on a module: the rule that is broken at its target, or the module that it forms.
use Rattle.std.specs.Prelude.{◌==◌, ℕ, List, [], ◌∷◌, ◌++◌, map, Option, Some, None, if◌then◌else◌}
use Rattle.mlir_ir.specs.Count.{first}
use Rattle.mlir_ir.specs.Shape.{FuncShape}
use Rattle.mlir_ir.specs.declared.tree.Module.{Module}
use Rattle.mlir_ir.specs.declared.tree.Op.{Op}
use Rattle.mlir_ir.specs.declared.tree.OpId.{OpId}
use Rattle.mlir_verify.specs.Place.{type_among}
use Rattle.verified_runs.specs.Edits.{Step, edited_func}
use Rattle.verified_runs.specs.Passes.{Scope}
use Rattle.structured_steps.specs.declared.rule.StepRule.{StepRule}
use Rattle.structured_steps.specs.declared.rule.StepRule.TheVariants.{WrongKind, Permutation, ReductionOrder}
use Rattle.verified_runs.specs.Forms.{Structured}
use Rattle.verified_runs.specs.Fresh.{fresh_value, fresh_op}
use Rattle.structured_steps.specs.Generalize.{has_wrong_kind, generalize}
use Rattle.structured_steps.specs.Interchange.{as_generic, breaks_permutation, breaks_reduction_order, interchange}

-- the module with a step at the operation of this number
abbrev pub formed : OpId → Step → Module → Module
formed i step m = record { funcs = map (edited_func i step) m.funcs }

-- a rule at an operation, by the definitions in scope
abbrev pub Rules : Type 0
Rules = Scope → Op → Option StepRule

-- at the operation of this number; None where it isn't there
abbrev pub broken_in : OpId → Rules → Scope → List Op → Option StepRule
broken_in i rules scope [] = None
broken_in i rules scope (o ∷ os) = if o.id.0 == i.0 then rules scope o else broken_in i rules (scope ++ o.results) os

abbrev pub broken_among : OpId → Rules → List FuncShape → Option StepRule
broken_among i rules [] = None
broken_among i rules (f ∷ fs) = first (broken_in i rules f.params f.body) (broken_among i rules fs)

abbrev pub broken_of : OpId → Rules → Module → Option StepRule
broken_of i rules m = broken_among i rules m.funcs

-- GENERALIZE
abbrev pub rules_of_generalize : Rules
rules_of_generalize scope o = if has_wrong_kind (type_among scope) o then Some WrongKind else None

abbrev pub generalized : OpId → Module → Module
generalized i m = formed i (generalize (fresh_op m.funcs) (fresh_value m.funcs)) m

-- INTERCHANGE
abbrev pub broken_order : List ℕ → Option Structured → Option StepRule
broken_order order None = Some WrongKind
broken_order order (Some g) = if breaks_permutation order g then Some Permutation else (if breaks_reduction_order order g then Some ReductionOrder else None)

abbrev pub rules_of_interchange : List ℕ → Rules
rules_of_interchange order scope o = broken_order order (as_generic o.kind)

abbrev pub interchanged_in : OpId → List ℕ → Module → Module
interchanged_in i order m = formed i (interchange order (fresh_op m.funcs) (fresh_value m.funcs)) m
