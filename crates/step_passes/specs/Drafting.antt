-- A plan as it is drafted in code, turn by turn.
use Rattle.std.specs.Prelude.{◌≡◌, ℕ, suc, List, [], ◌∷◌, ◌++◌, Option, Some, None, Result, Ok, Err, ⊤}
use Rattle.mlir_base.specs.declared.limit.Which.{Which}
use Rattle.mlir_ir.specs.declared.tree.OpId.{OpId}
use Rattle.mlir_ir.specs.declared.tree.OpKind.{OpKind}
use Rattle.rewrite_base.specs.declared.error.StepError.{StepError}
use Rattle.rewrite_base.specs.declared.error.StepError.TheVariants.{Memory}
use Rattle.step_passes.specs.declared.exchange.Exchange.{Exchange}
use Rattle.step_passes.specs.declared.plan.Draft.{Draft}
use Rattle.step_passes.specs.declared.plan.Plan as code
use Rattle.step_passes.specs.declared.told.Told as answers
use Rattle.step_passes.specs.declared.told.Told.TheVariants.{Unfit}
use Rattle.step_passes.specs.Planned.{Told, Plan, limit_before, in_turn}

-- what the turns that are left give, by the exchanges and the next fresh numbers
abbrev pub Later : Type 0
Later = List Exchange → ℕ → ℕ → Plan

abbrev pub stand_first : List OpId → Plan → Plan
stand_first given (Ok p) = Ok (p.0, given ++ p.1)
stand_first given (Err why) = Err why

-- the plan that a draft comes to
abbrev pub comes_to : Draft → Later → Plan
comes_to d later = stand_first d.stand (later d.exchanges d.value d.op)

-- with a turn before
abbrev pub comes_in_turn : Draft → Option Told → OpId → Option Which → Later → Plan
comes_in_turn d t i own later =
    stand_first d.stand (in_turn t i (limit_before d.value d.op own) d.exchanges d.value d.op later)

-- a turn was taken, or its error is told; memory alone is free
abbrev pub TakesTurn : {X : Type 0} → Option Told → OpId → Option Which → Draft → Draft → Result X StepError → Type 0
TakesTurn t i own old new (Ok done) = (later : Later) → comes_in_turn old t i own later ≡ comes_to new later
TakesTurn t i own old new (Err Memory) = ⊤
TakesTurn t i own old new (Err why) = (later : Later) → comes_in_turn old t i own later ≡ Err why

-- with one more exchange, under the next fresh numbers
abbrev pub with_exchange : OpId → OpKind → Draft → Draft
with_exchange i kind d = record {
  exchanges = d.exchanges ++ record { target = i; op = d.op; value = d.value; kind = kind } ∷ [];
  stand = d.stand ++ record { 0 = d.op } ∷ [];
  value = suc d.value;
  op = suc d.op;
}

abbrev pub IsFitting : answers.Told → Type 0
IsFitting Unfit = ⊥
IsFitting _ = ⊤

abbrev pub IsFittingIfThere : Option answers.Told → Type 0
IsFittingIfThere None = ⊤
IsFittingIfThere (Some c) = IsFitting c

-- the code's plan is the stated one; memory alone is free
abbrev pub Plans : Plan → Result code.Plan StepError → Type 0
Plans p (Ok x) = p ≡ Ok (x.exchanges, x.stand)
Plans p (Err Memory) = ⊤
Plans p (Err why) = p ≡ Err why
