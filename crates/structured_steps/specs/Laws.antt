-- The laws of the steps. Each is the contract of a function in `src/laws.rt`.
use Rattle.std.specs.Prelude.{◌≡◌, ℕ, is_some, is_none, List}
use Rattle.mlir_ir.specs.declared.tree.Module.{Module}
use Rattle.mlir_ir.specs.declared.tree.Op.{Op}
use Rattle.mlir_ir.specs.declared.tree.OpId.{OpId}
use Rattle.mlir_meaning.specs.Grids.{Each}
use Rattle.mlir_verify.specs.Rules.{IsVerified}
use Rattle.verified_runs.specs.Passes.{Scope}
use Rattle.verified_runs.specs.Laws.{KeepsMeaning}
use Rattle.verified_runs.specs.Fresh.{fresh_value, fresh_op}
use Rattle.structured_steps.specs.Generalize.{generalize}
use Rattle.structured_steps.specs.Interchange.{interchange}
use Rattle.structured_steps.specs.Steps.{rules_of_interchange}

abbrev pub GeneralizeKeepsMeaning : Type 0
GeneralizeKeepsMeaning = (m : Module) (i : OpId) → IsVerified m →
    Each (KeepsMeaning i (generalize (fresh_op m.funcs) (fresh_value m.funcs))) m.funcs

abbrev pub InterchangeKeepsMeaning : Type 0
InterchangeKeepsMeaning = (m : Module) (i : OpId) (order : List ℕ) → IsVerified m →
    Each (KeepsMeaning i (interchange order (fresh_op m.funcs) (fresh_value m.funcs))) m.funcs

-- an operation is formed exactly where no rule of the step is broken
abbrev pub RulesDecide : Type 0
RulesDecide = (order : List ℕ) (op n : ℕ) (scope : Scope) (o : Op) → is_some (interchange order op n scope o) ≡ is_none (rules_of_interchange order scope o)
