-- What a step at operations in turn forms verifies.
use Rattle.std.proofs.Common.{◌≡◌, true, List, [], ◌∷◌, Option, Some, None, Result, Ok, Err, ap, sym, ◌∙◌, subst}
use Rattle.std.specs.Prelude.{⊤}
use Rattle.mlir_base.specs.declared.limit.Which.{Which}
use Rattle.mlir_ir.specs.declared.tree.Module.{Module}
use Rattle.mlir_ir.specs.declared.tree.OpId.{OpId}
use Rattle.mlir_verify.specs.Rules.{IsVerified}
use Rattle.structured_steps.specs.declared.rule.StepRule.{StepRule}
use Rattle.structured_steps.specs.Steps.{broken_of}
use Rattle.verified_runs.specs.Fresh.{fresh_value, fresh_op}
use Rattle.rewrite_base.specs.Limits.{limit_of}
use Rattle.rewrite_base.specs.declared.error.StepError.{StepError}
use Rattle.rewrite_base.specs.declared.error.StepError.TheVariants.{Rule, Limit, Memory}
use Rattle.rewrite_base.specs.declared.made.Made.{Made}
use Rattle.step_passes.specs.declared.plan.Plan as code
use Rattle.step_passes.specs.Answered.{Answered}
use Rattle.step_passes.specs.Drafting.{Plans}
use Rattle.step_passes.specs.Exchanging.{Exchanging, rules_of, formed_by, made_by}
use Rattle.step_passes.specs.Sequences.{Outcome, decided, exchanged_at, then_at, behind, given_by, at_each, are_targets}
use Rattle.step_passes.specs.Laws.{IsOnePass}
use Rattle.step_passes.specs.OnePass.{passed_module}
use Rattle.step_passes.specs.Planned.{Plan, planned, carried_out}
use Rattle.step_passes.proofs.Natural.{IsExchanging}

-- where a module was formed, it verifies
abbrev pub Verifies : Outcome → Type 0
Verifies (Ok x) = IsVerified x.0
Verifies (Err why) = ⊤

decided_verifies : (i : OpId) (b : Option StepRule) (w : Option Which) (n : Module) (ops : List OpId) → IsVerified n → Verifies (decided i b w n ops)
decided_verifies i (Some rule) w n ops v = tt
decided_verifies i None (Some which) n ops v = tt
decided_verifies i None None n ops v = v

behind_verifies : (given : List OpId) (r : Outcome) → Verifies r → Verifies (behind given r)
behind_verifies given (Ok x) v = v
behind_verifies given (Err why) v = tt

then_verifies : (r : Outcome) (f : Module → Outcome) → Verifies r → ((n : Module) → IsVerified n → Verifies (f n)) → Verifies (then_at r f)
then_verifies (Ok x) f v h = h x.0 v
then_verifies (Err why) f v h = tt

pub each_verifies : (e : Exchanging) → IsExchanging e → (is : List OpId) (m : Module) → IsVerified m → Verifies (at_each (exchanged_at e) is m)
each_verifies e x [] m v = v
each_verifies e x (i ∷ is) m v =
    then_verifies (exchanged_at e i m) (λ n. behind (given_by (exchanged_at e i m)) (at_each (exchanged_at e) is n))
    (decided_verifies i (broken_of i (rules_of e) m) (limit_of m (formed_by e i m)) (formed_by e i m) (made_by e i m) (x.verifies m i v))
    (λ n w. behind_verifies (given_by (exchanged_at e i m)) (at_each (exchanged_at e) is n) (each_verifies e x is n w))

-- where the plan was made from a module that is the step's own
module _ (e : Exchanging) (x : IsExchanging e) (law : IsOnePass e) (m own : Module) (same : own ≡ m) (was : IsVerified own) (is : List OpId) (there : are_targets m is ≡ true) where
  abbrev planned_here : Plan
  planned_here = planned e own is [] (fresh_value own.funcs) (fresh_op own.funcs)

  there_too : are_targets own is ≡ true
  there_too = ap (λ n. are_targets n is) same ∙ there

  in_one_pass : (p : Plan) → planned_here ≡ p → at_each (exchanged_at e) is m ≡ carried_out m p
  in_one_pass p h =
      ap (at_each (exchanged_at e) is) (sym same)
      ∙ law own is was there_too
      ∙ (λ j. carried_out (same j) (h j))

  pub carried_verifies : (p : code.Plan) → planned_here ≡ Ok (p.exchanges, p.stand) → IsVerified (passed_module p.exchanges m)
  carried_verifies p h =
      subst Verifies (in_one_pass (Ok (p.exchanges, p.stand)) h)
      (each_verifies e x is m (subst IsVerified same was))

  pub carried_answers : (p : code.Plan) (r : Result (Module × Made) StepError) → planned_here ≡ Ok (p.exchanges, p.stand) →
      Answered r (Ok (passed_module p.exchanges m, p.stand)) → Answered r (at_each (exchanged_at e) is m)
  carried_answers p r h a = subst (Answered r) (sym (in_one_pass (Ok (p.exchanges, p.stand)) h)) a

  pub refusal_answers : (why : StepError) → Plans planned_here (Err why) → Answered (Err why) (at_each (exchanged_at e) is m)
  refusal_answers Memory h = tt
  refusal_answers (Rule rule op) h = in_one_pass (Err (Rule rule op)) h
  refusal_answers (Limit which) h = in_one_pass (Err (Limit which)) h
