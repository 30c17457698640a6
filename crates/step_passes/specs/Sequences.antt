-- A step at operations in turn, each in the module that the ones before it gave (Transform manual, "Transform Dialect").
use Rattle.std.specs.Prelude.{◌≡◌, ℕ, ◌&&◌, not, is_some, Bool, true, List, [], ◌∷◌, ◌++◌, map, Option, Some, None, Result, Ok, Err, ⊤}
use Rattle.std.specs.List.{list_all}
use Rattle.affine_maps.specs.Permutation.{is_among}
use Rattle.mlir_ir.specs.Count.{find_in}
use Rattle.mlir_base.specs.declared.limit.Which.{Which}
use Rattle.mlir_ir.specs.declared.tree.Module.{Module}
use Rattle.mlir_ir.specs.declared.tree.OpId.{OpId}
use Rattle.structured_steps.specs.declared.rule.StepRule.{StepRule}
use Rattle.structured_steps.specs.Steps.{broken_of}
use Rattle.rewrite_base.specs.declared.error.StepError.{StepError}
use Rattle.rewrite_base.specs.declared.error.StepError.TheVariants.{Rule, Limit, Memory}
use Rattle.rewrite_base.specs.Limits.{limit_of}
use Rattle.step_passes.specs.Exchanging.{Exchanging, rules_of, formed_by, made_by}

-- AT ONE OPERATION
abbrev pub Outcome : Type 0
Outcome = Result (Module × List OpId) StepError

-- a rule comes before a limit
abbrev pub decided : OpId → Option StepRule → Option Which → Module → List OpId → Outcome
decided i (Some rule) limit formed ops = Err (Rule rule (Some i))
decided i None (Some which) formed ops = Err (Limit which)
decided i None None formed ops = Ok (formed, ops)

abbrev pub exchanged_at : Exchanging → OpId → Module → Outcome
exchanged_at e i m = decided i (broken_of i (rules_of e) m) (limit_of m (formed_by e i m)) (formed_by e i m) (made_by e i m)

-- AT OPERATIONS
abbrev pub then_at : Outcome → (Module → Outcome) → Outcome
then_at (Ok x) f = f x.0
then_at (Err why) f = Err why

-- what earlier ones gave stands first
abbrev pub behind : List OpId → Outcome → Outcome
behind given (Ok x) = Ok (x.0, given ++ x.1)
behind given (Err why) = Err why

abbrev pub given_by : Outcome → List OpId
given_by (Ok x) = x.1
given_by (Err why) = []

abbrev pub at_each : (OpId → Module → Outcome) → List OpId → Module → Outcome
at_each step [] m = Ok (m, [])
at_each step (i ∷ is) m = then_at (step i m) (λ n. behind (given_by (step i m)) (at_each step is n))

-- the code's answer is that of the definition, unless memory ran out
abbrev pub Agrees : Outcome → Outcome → Type 0
Agrees (Ok x) r = r ≡ Ok x
Agrees (Err Memory) r = ⊤
Agrees (Err why) r = r ≡ Err why

-- WHERE EACH STANDS
abbrev pub numbers_of : List OpId → List ℕ
numbers_of = map (λ (i : OpId). i.0)

-- none stands twice
abbrev pub are_different : List OpId → Bool
are_different [] = true
are_different (i ∷ is) = not (is_among i.0 (numbers_of is)) && are_different is

abbrev pub are_targets : Module → List OpId → Bool
are_targets m is = list_all (λ (i : OpId). is_some (find_in i m.funcs)) is && are_different is
