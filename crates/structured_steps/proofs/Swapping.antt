-- A payload with a combiner is folded in any order.
use Rattle.std.proofs.Common.{◌≡◌, ℕ, true, List, map, Option, Some, None, option_map, option_and_then, fold, filter, refl, ap, sym, ◌∙◌}
use Rattle.std.specs.Prelude.{is_some}
use Rattle.affine_maps.specs.Shape.{MapShape}
use Rattle.payload_ops.specs.Combine.{joined}
use Rattle.payload_laws.specs.Combiners.{combining, combiner_of, value_after}
use Rattle.mlir_base.specs.Types.{bits_of}
use Rattle.payload_ops.specs.Payload.{IsPayload}
use Rattle.payload_ops.specs.Shape.{PayloadShape}
use Rattle.payload_ops.specs.Values.{Given}
use Rattle.payload_ops.specs.declared.kinds.Combiner.{Combiner}
use Rattle.payload_ops.specs.declared.step.Arg.{Arg}
use Rattle.payload_laws.proofs.Combiners.{joins_term, term_apart}
use Rattle.payload_laws.proofs.Joined.{joined_assoc, joined_comm}
use Rattle.mlir_meaning.specs.declared.values.Datum.{Datum}
use Rattle.mlir_meaning.specs.Structured.{elements, generic_step}
use Rattle.mlir_meaning.specs.Grids.{points}
use Rattle.structured_steps.specs.Interchange.{old_point, new_point}
use Rattle.structured_steps.proofs.Folding.{filtered_any_order}
use Rattle.structured_steps.proofs.Listed.{tabled_length}
use Rattle.structured_steps.proofs.Turning.{Order, points_permuted}
use Rattle.structured_steps.proofs.TurnedResults.{through, picks, box, Reorders}

combined : (o : Option (Combiner × Arg)) → is_some (option_map (λ (found : Combiner × Arg). found.0) o) ≡ true → (c : Combiner) × (t : Arg) × (o ≡ Some (c, t))
combined None h = absurd cc
combined (Some x) h = (x.0, x.1, refl)

join_swaps : (c : Combiner) (w : ℕ) (o x y : Option ℕ) →
    option_and_then (λ b. option_map (joined c w b) y) (option_and_then (λ b. option_map (joined c w b) x) o)
    ≡ option_and_then (λ b. option_map (joined c w b) x) (option_and_then (λ b. option_map (joined c w b) y) o)
join_swaps c w None x y = refl
join_swaps c w (Some a) None None = refl
join_swaps c w (Some a) None (Some y) = refl
join_swaps c w (Some a) (Some x) None = refl
join_swaps c w (Some a) (Some x) (Some y) = ap Some (joined_assoc c w a x y ∙ ap (joined c w a) (joined_comm c w x y) ∙ sym (joined_assoc c w a y x))

module _ (order : List ℕ) (n : ℕ) (o : Order order n) (maps : List MapShape) (payload : PayloadShape) (ins : List Datum) (out : Datum) (captured : List ℕ) where
  given : List ℕ → ℕ → Given
  given p b = record { point = p; outer = captured; ins = elements ins maps p; out = b }

  module _ (fits : IsPayload payload) (c : Combiner) (t : Arg) (found : combining payload.steps payload.yielded ≡ Some (c, t)) where
    term : List ℕ → Option ℕ
    term p = value_after payload (given p 0) t

    abbrev joining : Option ℕ → List ℕ → Option ℕ
    joining a p = option_and_then (λ b. option_map (joined c (bits_of payload.out) b) (term p)) a

    step_is : (p : List ℕ) (b : ℕ) → generic_step maps ins captured payload b p ≡ option_map (joined c (bits_of payload.out) b) (term p)
    unfolding term given
    step_is p b = joins_term payload c t fits found (given p b) ∙ ap (option_map (joined c (bits_of payload.out) b)) (term_apart payload c t fits found (given p 0) b)

    through_is : through order n o maps payload ins out captured ≡ joining
    through_is = λ j a p. option_and_then (λ b. step_is p b j) a

    any_order : Reorders order n o maps payload ins out captured
    any_order e a =
        let here = box order n o maps payload ins out captured in
        (λ j. fold (through_is j) a (filter (picks order n o maps payload ins out captured e) (map (old_point order) (points (new_point order here)))))
        ∙ filtered_any_order joining (picks order n o maps payload ins out captured e) (λ b x y p q. join_swaps c (bits_of payload.out) b (term x) (term y))
        (points here) (map (old_point order) (points (new_point order here))) (points_permuted order n o here (tabled_length _ n)) a
        ∙ (λ j. fold (sym through_is j) a (filter (picks order n o maps payload ins out captured e) (points here)))

  pub combiner_reorders : IsPayload payload → is_some (combiner_of payload) ≡ true → Reorders order n o maps payload ins out captured
  combiner_reorders fits some = let found = combined (combining payload.steps payload.yielded) some in any_order fits found.0 found.1 found.2
