-- Runs of joined lists of operations.
use Rattle.std.proofs.Common.{◌≡◌, List, [], ◌∷◌, ◌++◌, refl, ◌∙◌}
use Rattle.mlir_meaning.specs.Meaning.{kind_meaning, run}
use Rattle.mlir_meaning.specs.States.{State, Outcome, Goes, Ends, Fails, then_goes}
use Rattle.mlir_ir.specs.declared.tree.Op.{Op}

pub then_goes_assoc : (o : Outcome) (f g : State → Outcome) → then_goes o (λ s. then_goes (f s) g) ≡ then_goes (then_goes o f) g
then_goes_assoc (Goes s) f g = refl
then_goes_assoc (Ends ds) f g = refl
then_goes_assoc (Fails x) f g = refl

pub run-append : (xs ys : List Op) (s : State) → run (xs ++ ys) s ≡ then_goes (run xs s) (run ys)
unfolding kind_meaning run
run-append [] ys s = refl
run-append (o ∷ os) ys s =
    (λ i. then_goes (kind_meaning o.kind o.results s) (λ t. run-append os ys t i))
    ∙ then_goes_assoc (kind_meaning o.kind o.results s) (run os) (run ys)

pub run-one : (o : Op) (s : State) → run (o ∷ []) s ≡ kind_meaning o.kind o.results s
unfolding run
run-one o s = ends (kind_meaning o.kind o.results s)
  where
    ends : (p : Outcome) → then_goes p (λ t. Goes t) ≡ p
    ends (Goes t) = refl
    ends (Ends ds) = refl
    ends (Fails x) = refl
