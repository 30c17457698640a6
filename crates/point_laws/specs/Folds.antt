-- Folds whose terms may change places, and what is known of a payload whose terms they are.
use Rattle.std.specs.Prelude.{◌≡◌, ℕ, List, false, Option, Some, option_and_then, Bool, true}
use Rattle.payload_laws.specs.Combiners.{combining}
use Rattle.payload_ops.specs.Shape.{PayloadShape}
use Rattle.payload_ops.specs.declared.kinds.Combiner.{Combiner}
use Rattle.payload_ops.specs.declared.step.Arg.{Arg}
use Rattle.payload_ops.specs.Payload.{IsPayload}
use Rattle.payload_laws.specs.Known.{may_trap}

-- a step whose terms may change places
abbrev pub Swaps : {A X : Type 0} → (A → X → A) → Type 0
Swaps {A} {X} f = (a : A) (x y : X) → f (f a x) y ≡ f (f a y) x

-- the step of a fold over points, after a trap too
abbrev pub then_step : (ℕ → List ℕ → Option ℕ) → Option ℕ → List ℕ → Option ℕ
then_step step o p = option_and_then (λ a. step a p) o

-- at a point that passes the test the steps agree, and at another one the new step keeps the element
abbrev pub AgreesInside : {X : Type 0} → (ℕ → Type 0) → (ℕ → X → Option ℕ) → (ℕ → X → Option ℕ) → (X → Bool) → X →
    Type 0
AgreesInside In step step' T p =
    (T p ≡ true → (a : ℕ) → In a → (step' a p ≡ step a p) × ((b : ℕ) → step a p ≡ Some b → In b))
    × (T p ≡ false → (a : ℕ) → In a → step' a p ≡ Some a)

-- the payload has a combiner
pub record Combines (payload : PayloadShape) : Type 0 where
  pub is : IsPayload payload
  pub combiner : Combiner
  pub term : Arg
  pub found : combining payload.steps payload.yielded ≡ Some (combiner, term)

-- the payload can't trap
pub record CannotTrap (payload : PayloadShape) : Type 0 where
  pub is : IsPayload payload
  pub never : may_trap payload ≡ false
