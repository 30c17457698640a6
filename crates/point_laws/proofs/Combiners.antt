-- Payloads with a combiner join terms that may change places, and a neutral term may be added anywhere.
use Rattle.std.proofs.Common.{◌≡◌, ℕ, ◌<◌, ◌^◌, List, [], ◌∷◌, ◌++◌, fold, Option, Some, None, refl, ap, sym, ◌∙◌, subst}
use Rattle.std.specs.Prelude.{option_map, option_and_then}
use Rattle.payload_ops.specs.Combine.{joined}
use Rattle.payload_laws.specs.Combiners.{neutral_of, combining, value_after}
use Rattle.payload_laws.specs.Laws.{with_out}
use Rattle.payload_ops.specs.Payload.{IsPayload}
use Rattle.mlir_base.specs.Types.{bits_of}
use Rattle.payload_ops.specs.Shape.{PayloadShape}
use Rattle.payload_ops.specs.Values.{Given, payload_value}
use Rattle.payload_ops.specs.declared.kinds.Combiner.{Combiner}
use Rattle.payload_ops.specs.declared.step.Arg.{Arg}
use Rattle.payload_laws.proofs.Combiners.{joins_term, term_apart}
use Rattle.payload_laws.proofs.Joined.{joined_assoc, joined_comm, joined_neutral, joined_below}
use Rattle.point_laws.specs.Folds.{Swaps}

pub combine_swaps : (c : Combiner) (w : ℕ) → Swaps (joined c w)
combine_swaps c w a x y = joined_assoc c w a x y ∙ ap (joined c w a) (joined_comm c w x y) ∙ sym (joined_assoc c w a y x)

-- terms that may trap
pub step_swaps : {X : Type 0} (join : ℕ → ℕ → ℕ) (term : X → Option ℕ) → Swaps join → Swaps (λ (o : Option ℕ) x. option_and_then (λ a. option_map (join a) (term x)) o)
step_swaps join term swaps o x y = both o (term x) (term y)
  where
    both : (o s t : Option ℕ) →
        option_and_then (λ a. option_map (join a) t) (option_and_then (λ a. option_map (join a) s) o) ≡ option_and_then (λ a. option_map (join a) s) (option_and_then (λ a. option_map (join a) t) o)
    both None s t = refl
    both (Some a) None None = refl
    both (Some a) None (Some n) = refl
    both (Some a) (Some m) None = refl
    both (Some a) (Some m) (Some n) = ap (λ k. Some k) (swaps a m n)

pub payload_swaps : {X : Type 0} (payload : PayloadShape) (c : Combiner) (t : Arg) → IsPayload payload → combining payload.steps payload.yielded ≡ Some (c, t) →
    (given : X → Given) → Swaps (λ (o : Option ℕ) x. option_and_then (λ a. payload_value payload (with_out (given x) a)) o)
payload_swaps {X} payload c t is found given =
    let w : ℕ = bits_of payload.out in
    subst Swaps
    (λ j. λ (o : Option ℕ) (x : X). option_and_then (λ a.
    sym (joins_term payload c t is found (with_out (given x) a) ∙ ap (option_map (joined c w a)) (term_apart payload c t is found (given x) a)) j) o)
    (step_swaps (joined c w) (λ x. value_after payload (given x) t) (combine_swaps c w))

-- a neutral term anywhere
pub neutral_anywhere : (c : Combiner) (w : ℕ) (xs ys : List ℕ) (a : ℕ) → a < 2 ^ w → fold (joined c w) a (xs ++ neutral_of c w ∷ ys) ≡ fold (joined c w) a (xs ++ ys)
neutral_anywhere c w [] ys a h = ap (λ b. fold (joined c w) b ys) (joined_neutral c w a h).1
neutral_anywhere c w (x ∷ xs) ys a h = neutral_anywhere c w xs ys (joined c w a x) (joined_below c w a x)
