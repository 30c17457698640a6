-- Functions whose body is one loop between other operations. A loop holds its body as a row, so what it means comes by a lemma.
use Rattle.std.proofs.Common.{◌≡◌, ℕ, List, ◌∷◌, ◌++◌, map, refl, ap, ◌∙◌}
use Rattle.mlir_ir.specs.Shape.{FuncShape, TensorShape}
use Rattle.mlir_ir.specs.declared.tree.Idx.{Idx}
use Rattle.mlir_ir.specs.declared.tree.Op.{Op}
use Rattle.mlir_ir.specs.declared.tree.Ty.{Ty}
use Rattle.mlir_ir.specs.declared.tree.ValueId.{ValueId}
use Rattle.mlir_meaning.specs.Contexts.{ForLoop, ForallLoop, for_op, forall_op}
use Rattle.mlir_meaning.specs.Loops.{for_meaning, forall_meaning}
use Rattle.mlir_meaning.specs.Meaning.{run, initial_state, answer_of, meaning}
use Rattle.mlir_meaning.specs.States.{State, Outcome, then_goes}
use Rattle.mlir_meaning.proofs.Bodies.{meaning-for, meaning-forall}
use Rattle.mlir_meaning.proofs.Runs.{run-append}
use Rattle.mlir_meaning.proofs.worked.Build.{value, values, function}

-- results, the variable, bounds and step, and the carried values
abbrev pub counted : List (ℕ × Ty) → ℕ → ℕ → ℕ → ℕ → List (ValueId × Ty × ValueId) → ForLoop
counted rs var lower upper step carried = record {
  id = record { 0 = 0 };
  results = map (λ r. (value r.0, r.1)) rs;
  head = record { var = value var; lower = value lower; upper = value upper; step = value step; carried = carried };
}

abbrev pub parallel : List (ℕ × Ty) → List ℕ → List Idx → List Idx → List Idx → List (ValueId × Ty × ValueId) → ForallLoop
parallel rs vars lower upper step shared = record {
  id = record { 0 = 0 };
  results = map (λ r. (value r.0, r.1)) rs;
  head = record { vars = values vars; lower = lower; upper = upper; step = step; shared = shared };
}

pub record AroundFor : Type 0 where
  pub params : List Ty
  pub results : List Ty
  pub before : List Op
  pub loop : ForLoop
  pub body : List Op
  pub after : List Op

pub record AroundForall : Type 0 where
  pub params : List Ty
  pub results : List Ty
  pub before : List Op
  pub loop : ForallLoop
  pub body : List Op
  pub after : List Op

abbrev pub with_for : AroundFor → FuncShape
with_for f = function f.params f.results (f.before ++ (for_op f.loop f.body ∷ f.after))

abbrev pub with_forall : AroundForall → FuncShape
with_forall f = function f.params f.results (f.before ++ (forall_op f.loop f.body ∷ f.after))

-- a loop and what follows it
abbrev pub runs_for : ForLoop → (State → Outcome) → List Op → State → Outcome
runs_for l body after s = then_goes (for_meaning l.head body l.results s) (run after)

abbrev pub runs_forall : ForallLoop → (State → Outcome) → List Op → State → Outcome
runs_forall l body after s = then_goes (forall_meaning l.head body l.results s) (run after)

pub for_first : (l : ForLoop) (body after : List Op) (s : State) → run (for_op l body ∷ after) s ≡ runs_for l (run body) after s
unfolding run
for_first l body after s = λ i. then_goes (meaning-for l.head body i l.results s) (run after)

pub forall_first : (l : ForallLoop) (body after : List Op) (s : State) → run (forall_op l body ∷ after) s ≡ runs_forall l (run body) after s
unfolding run
forall_first l body after s = λ i. then_goes (meaning-forall l.head body i l.results s) (run after)

-- what the function gives, by what its loop's body does
pub for_gives_by : (f : AroundFor) (body : State → Outcome) → run f.body ≡ body → (inputs : List TensorShape) →
    meaning (with_for f) inputs ≡ answer_of (then_goes (run f.before (initial_state (with_for f).params inputs)) (runs_for f.loop body f.after))
unfolding meaning
for_gives_by f body same inputs =
    ap answer_of (run-append f.before (for_op f.loop f.body ∷ f.after) (initial_state (with_for f).params inputs)
    ∙ (λ i. then_goes (run f.before (initial_state (with_for f).params inputs)) (λ s. for_first f.loop f.body f.after s i))
    ∙ (λ i. then_goes (run f.before (initial_state (with_for f).params inputs)) (runs_for f.loop (same i) f.after)))

pub for_gives : (f : AroundFor) (inputs : List TensorShape) →
    meaning (with_for f) inputs ≡ answer_of (then_goes (run f.before (initial_state (with_for f).params inputs)) (runs_for f.loop (run f.body) f.after))
for_gives f inputs = for_gives_by f (run f.body) refl inputs

pub forall_gives : (f : AroundForall) (inputs : List TensorShape) →
    meaning (with_forall f) inputs
    ≡ answer_of (then_goes (run f.before (initial_state (with_forall f).params inputs)) (runs_forall f.loop (run f.body) f.after))
unfolding meaning
forall_gives f inputs =
    ap answer_of (run-append f.before (forall_op f.loop f.body ∷ f.after) (initial_state (with_forall f).params inputs)
    ∙ (λ i. then_goes (run f.before (initial_state (with_forall f).params inputs)) (λ s. forall_first f.loop f.body f.after s i)))
