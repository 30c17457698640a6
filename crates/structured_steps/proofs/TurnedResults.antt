-- A generic in another order of its dimensions gives the same tensor, where its folds may go in that order.
use Rattle.std.proofs.Common.{◌≡◌, ℕ, Bool, List, [], ◌∷◌, ◌++◌, map, length, Option, Some, option_map, option_and_then, fold, filter, ap, ◌∙◌}
use Rattle.affine_maps.specs.Shape.{MapShape}
use Rattle.payload_ops.specs.Shape.{PayloadShape}
use Rattle.payload_ops.specs.Values.{payload_value}
use Rattle.mlir_meaning.specs.Grids.{InBox, points, at, same_point}
use Rattle.mlir_meaning.specs.Points.{map_point}
use Rattle.mlir_meaning.specs.States.{grid_of, width_of}
use Rattle.mlir_meaning.specs.declared.values.Datum.{Datum}
use Rattle.mlir_meaning.specs.declared.values.Datum.TheVariants.{Cells}
use Rattle.mlir_meaning.specs.Structured.{generic_box, elements, generic_step, output_map, generic_result}
use Rattle.mlir_meaning.proofs.Grids.{each_more, each_point, settled_same}
use Rattle.structured_steps.specs.Interchange.{old_point, new_point, turned_map, turned_payload}
use Rattle.structured_steps.proofs.Listed.{box_length}
use Rattle.structured_steps.proofs.Turning.{Order, new_length}
use Rattle.structured_steps.proofs.Folding.{fold_mapped}
use Rattle.structured_steps.proofs.TurnedMaps.{point_same, elements_same, box_turned, output_turned}
use Rattle.structured_steps.proofs.TurnedPayloads.{payload_same}

module _ (order : List ℕ) (n : ℕ) (o : Order order n) (maps : List MapShape) (payload : PayloadShape) (ins : List Datum) (out : Datum) (captured : List ℕ) where
  abbrev pub box : List ℕ
  box = generic_box maps n (ins ++ out ∷ [])

  abbrev pub through : Option ℕ → List ℕ → Option ℕ
  through a p = option_and_then (λ b. generic_step maps ins captured payload b p) a

  abbrev pub picks : List ℕ → List ℕ → Bool
  picks e p = same_point (map_point (output_map maps ins) p) e

  -- what an order owes: each element's fold goes through its points in the new order as in the old one
  abbrev pub Reorders : Type 0
  Reorders = (e : List ℕ) (a : Option ℕ) → fold through a (filter (picks e) (map (old_point order) (points (new_point order box)))) ≡ fold through a (filter (picks e) (points box))

  abbrev turned_through : Option ℕ → List ℕ → Option ℕ
  turned_through a q = option_and_then (λ b. generic_step (map (turned_map order) maps) ins captured (turned_payload order payload) b q) a

  abbrev turned_picks : List ℕ → List ℕ → Bool
  turned_picks e q = same_point (map_point (output_map (map (turned_map order) maps) ins) q) e

  picks_same : (e q : List ℕ) → length q ≡ n → turned_picks e q ≡ picks e (old_point order q)
  picks_same e q long =
      (λ j. same_point (map_point (output_turned order n o maps ins j) q) e) ∙ (λ j. same_point (point_same order n o q long (output_map maps ins) j) e)

  step_same : (q : List ℕ) → length q ≡ n → (a : Option ℕ) → turned_through a q ≡ through a (old_point order q)
  step_same q long a = λ j. option_and_then (λ b.
      ((λ i. payload_value (turned_payload order payload) (record { point = q; outer = captured; ins = elements_same order n o q long ins maps i; out = b }))
      ∙ payload_same order n o payload q captured (elements ins maps (old_point order q)) b long) j) a

  element_same : Reorders → (e : List ℕ) (a : Option ℕ) →
      fold turned_through a (filter (turned_picks e) (points (generic_box (map (turned_map order) maps) n (ins ++ out ∷ [])))) ≡ fold through a (filter (picks e) (points box))
  element_same reorders e a =
      (λ j. fold turned_through a (filter (turned_picks e) (points (box_turned order n o maps (ins ++ out ∷ []) j))))
      ∙ fold_mapped through turned_through (picks e) (turned_picks e) (old_point order) (points (new_point order box))
      (each_more (InBox (new_point order box)) _ (λ q h. let long = box_length (new_point order box) q h ∙ new_length order n o box in (picks_same e q long, step_same q long)) (points (new_point order box)) (each_point (new_point order box))) a
      ∙ reorders e a

  pub result_turned : Reorders → generic_result (map (turned_map order) maps) n ins out captured (turned_payload order payload) ≡ generic_result maps n ins out captured payload
  unfolding generic_result
  result_turned reorders = ap (option_map (Cells (width_of out))) (settled_same (grid_of out).extents _ _ (λ e b. element_same reorders e (Some (at (grid_of out) e))))
