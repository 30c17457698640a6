-- What a step at operations does in one pass: each operation is looked up in the module before all of them, fresh numbers and limits are
-- told from running numbers, in turn, and one pass makes all exchanges.
use Rattle.std.specs.Prelude.{ℕ, suc, ◌^◌, ◌==◌, ◌||◌, nat_lt, List, [], ◌∷◌, ◌++◌, Option, Some, None, Result, Ok, Err, if◌then◌else◌}
use Rattle.mlir_base.specs.declared.limit.Which.{Which}
use Rattle.mlir_base.specs.declared.limit.Which.TheVariants.{Operations}
use Rattle.mlir_ir.specs.Count.{first}
use Rattle.mlir_ir.specs.Shape.{FuncShape}
use Rattle.mlir_ir.specs.declared.tree.Module.{Module}
use Rattle.mlir_ir.specs.declared.tree.Op.{Op}
use Rattle.mlir_ir.specs.declared.tree.OpId.{OpId}
use Rattle.mlir_ir.specs.declared.tree.OpKind.{OpKind}
use Rattle.mlir_verify.specs.Place.{Types, type_among}
use Rattle.verified_runs.specs.Fresh.{fresh_value, fresh_op}
use Rattle.verified_runs.specs.Passes.{Scope}
use Rattle.structured_steps.specs.declared.rule.StepRule.{StepRule}
use Rattle.rewrite_base.specs.declared.error.StepError.{StepError}
use Rattle.rewrite_base.specs.declared.error.StepError.TheVariants.{Rule, Limit}
use Rattle.rewrite_base.specs.Limits.{passed}
use Rattle.step_passes.specs.declared.exchange.Exchange.{Exchange}
use Rattle.step_passes.specs.Exchanging.{Exchanging}
use Rattle.step_passes.specs.OnePass.{passed_module}

-- the rule that is broken at an operation, and the kind that it becomes, where it doesn't stay
abbrev pub Told : Type 0
Told = Option StepRule × Option OpKind

abbrev pub told_at : Exchanging → Types → OpKind → Told
told_at e t kind = (e.breaks t kind, e.becomes t kind)

-- at the operation of this number
abbrev pub told_in : Exchanging → OpId → Scope → List Op → Option Told
told_in e i scope [] = None
told_in e i scope (o ∷ os) = if o.id.0 == i.0 then Some (told_at e (type_among scope) o.kind) else told_in e i (scope ++ o.results) os

abbrev pub told_among : Exchanging → OpId → List FuncShape → Option Told
told_among e i [] = None
told_among e i (f ∷ fs) = first (told_in e i f.params f.body) (told_among e i fs)

-- the limit that is passed before the next fresh numbers; the last one is the module's own
abbrev pub limit_before : ℕ → ℕ → Option Which → Option Which
limit_before value op own = if nat_lt (2 ^ 31) value || nat_lt (2 ^ 31) op then Some Operations else own

-- the exchanges, and the operations that stand for the targets
abbrev pub Plan : Type 0
Plan = Result (List Exchange × List OpId) StepError

abbrev pub stands_first : OpId → Plan → Plan
stands_first i (Ok p) = Ok (p.0, i ∷ p.1)
stands_first i (Err why) = Err why

-- one operation, and what follows it
abbrev pub in_turn : Option Told → OpId → Option Which → List Exchange → ℕ → ℕ → (List Exchange → ℕ → ℕ → Plan) → Plan
in_turn None i limit xs value op later = later xs value op
in_turn (Some (Some rule, becomes)) i limit xs value op later = Err (Rule rule (Some i))
in_turn (Some (None, becomes)) i (Some which) xs value op later = Err (Limit which)
in_turn (Some (None, None)) i None xs value op later = stands_first i (later xs value op)
in_turn (Some (None, Some kind)) i None xs value op later =
    stands_first (record { 0 = op }) (later (xs ++ record { target = i; op = op; value = value; kind = kind } ∷ []) (suc value) (suc op))

-- where the next fresh numbers are these
abbrev pub planned : Exchanging → Module → List OpId → List Exchange → ℕ → ℕ → Plan
planned e m [] xs value op = Ok (xs, [])
planned e m (i ∷ is) xs value op = in_turn (told_among e i m.funcs) i (limit_before value op (passed m.funcs)) xs value op (planned e m is)

abbrev pub carried_out : Module → Plan → Result (Module × List OpId) StepError
carried_out m (Ok p) = Ok (passed_module p.0 m, p.1)
carried_out m (Err why) = Err why

abbrev pub one_pass : Exchanging → List OpId → Module → Result (Module × List OpId) StepError
one_pass e is m = carried_out m (planned e m is [] (fresh_value m.funcs) (fresh_op m.funcs))
