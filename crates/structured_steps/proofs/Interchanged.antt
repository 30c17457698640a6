-- Interchanging dimensions keeps the meaning of every function.
use Rattle.std.proofs.Common.{◌≡◌, ℕ, zero, suc, ◌-◌, ◌<◌, ◌==◌, ◌&&◌, ◌||◌, Bool, true, false, not, List, [], ◌∷◌, map, length, get_or, fold, Option, Some, None, refl, ap, sym, subst, ◌∙◌, arith, eqb-true, ltb-true}
use Rattle.std.specs.Prelude.{nat_lt, is_some, slice_get, pos, if◌then◌else◌}
use Rattle.std.specs.List.{list_all, enumerate_from}
use Rattle.std.proofs.lemmas.Bool.{and_parts}
use Rattle.std.proofs.lemmas.Option.{same_Some}
use Rattle.std.proofs.lemmas.List.{length-map}
use Rattle.affine_maps.specs.Shape.{MapShape}
use Rattle.affine_maps.specs.Map.{dimension, terms_fit, expr_fits, IsMap}
use Rattle.affine_maps.specs.Permutation.{is_among, repeats, dimensions_of, is_projected_permutation}
use Rattle.affine_maps.specs.Map.{map_fits}
use Rattle.affine_maps.specs.Value.{value_at}
use Rattle.affine_maps.proofs.Permuting.{to_dimensions}
use Rattle.affine_maps.proofs.Listed.{fitting_below}
use Rattle.mlir_base.specs.Numbers.{is_in_range}
use Rattle.payload_laws.specs.Combiners.{combiner_of}
use Rattle.payload_ops.specs.Payload.{payload_fits, IsPayload}
use Rattle.mlir_ir.specs.declared.tree.Iter.{Iter}
use Rattle.mlir_ir.specs.declared.tree.Op.{Op}
use Rattle.mlir_ir.specs.declared.tree.OpId.{OpId}
use Rattle.mlir_ir.specs.declared.tree.OpKind.{OpKind, Generic}
use Rattle.mlir_ir.specs.declared.tree.Ty.{Ty}
use Rattle.mlir_ir.specs.declared.tree.ValueId.{ValueId}
use Rattle.mlir_meaning.specs.Grids.{count_up, same_point, Each}
use Rattle.mlir_meaning.specs.Points.{to_nat, map_point}
use Rattle.mlir_meaning.specs.States.{State, made}
use Rattle.mlir_meaning.specs.declared.values.Datum.{Datum}
use Rattle.mlir_meaning.specs.Structured.{generic_result}
use Rattle.mlir_meaning.specs.Structured as structured
use Rattle.mlir_meaning.specs.Meaning.{values_in, captured_in, kind_meaning}
use Rattle.mlir_meaning.proofs.Cells.{same_point-true}
use Rattle.mlir_verify.specs.Place.{Types, type_among, is_empty}
use Rattle.mlir_verify.specs.Tensors.{extents_of, result_type, is_alike, has_elements}
use Rattle.mlir_verify.specs.Types.{is_typed}
use Rattle.mlir_verify.specs.Maps.{output_map, on_output, fits_operand, fit_operands, cover_dimensions, is_iterator, output_dimensions, match_output, breaks_maps, breaks_iterators}
use Rattle.verified_runs.specs.Passes.{OpPasses}
use Rattle.verified_runs.specs.Edits.{renumbered, anew}
use Rattle.verified_runs.specs.Passes.{Scope}
use Rattle.verified_runs.specs.Forms.{Structured, kind_of}
use Rattle.verified_runs.specs.Fresh.{fresh_op, fresh_value}
use Rattle.structured_steps.specs.Interchange.{is_order, turned_map, turned_payload, iterator_at, reductions_in, keeps_reductions, breaks_permutation, breaks_reduction_order, interchanged, as_generic, interchanges, interchange}
use Rattle.verified_runs.specs.Laws.{IsRight, HasSameEffect}
use Rattle.structured_steps.specs.Laws.{InterchangeKeepsMeaning}
use Rattle.structured_steps.proofs.Listed.{tabled_length}
use Rattle.structured_steps.proofs.Turning.{Order, order_of}
use Rattle.structured_steps.proofs.TurnedResults.{box, through, picks, Reorders, result_turned}
use Rattle.structured_steps.proofs.Swapping.{combiner_reorders}
use Rattle.structured_steps.proofs.OutputMaps.{picked, reductions, picked_order}
use Rattle.verified_runs.proofs.Results.{HasOne, GivesSame, anew_same, one_result}
use Rattle.verified_runs.proofs.Steps.{module_keeps}

not_false : (b : Bool) → not b ≡ false → b ≡ true
not_false true e = refl
not_false false e = absurd cc

or_false : (a b : Bool) → (a || b) ≡ false → (a ≡ false) × (b ≡ false)
or_false true b e = absurd cc
or_false false b e = (refl, e)

-- WHAT A GENERIC THAT PASSES HAS
each_get : {X : Type 0} (P : X → Type 0) (xs : List X) (k : ℕ) (x : X) → Each P xs → slice_get xs k ≡ Some x → P x
each_get P [] k x h e = absurd cc
each_get P (y ∷ ys) zero x h e = subst P (same_Some y x e) h.0
each_get P (y ∷ ys) (suc k) x h e = each_get P ys k x h.1 e

get_some : {X : Type 0} (xs : List X) (k : ℕ) (x d : X) → slice_get xs k ≡ Some x → get_or xs k d ≡ x
get_some [] k x d e = absurd cc
get_some (y ∷ ys) zero x d e = same_Some y x e
get_some (y ∷ ys) (suc k) x d e = get_some ys k x d e

-- the output's map, and the dimensions that it takes
record Output (maps : List MapShape) (its : List Iter) : Type 0 where
  found : MapShape
  is : output_map maps ≡ Some found
  ds : List ℕ
  takes : found.results ≡ map dimension ds
  distinct : repeats ds ≡ false
  small : Each (λ d. d < length its) ds
  parallel : list_all (λ (i : ℕ × Iter). is_iterator i.1 (is_among i.0 ds)) (enumerate_from 0 its) ≡ true

dims_of : (ks : List ℕ) → dimensions_of (map dimension ks) ≡ ks
dims_of [] = refl
dims_of (k ∷ ks) = ap (λ xs. k ∷ xs) (dims_of ks)

dims_small : (n : ℕ) (ds : List ℕ) → list_all (expr_fits n) (map dimension ds) ≡ true → Each (λ d. d < n) ds
dims_small n [] h = tt
dims_small n (d ∷ ds) h =
    let both = and_parts (expr_fits n (dimension d)) (list_all (expr_fits n) (map dimension ds)) h in
    let below = fitting_below n ((d, pos 1) ∷ []) 0 (and_parts (is_in_range (pos 0)) (terms_fit n ((d, pos 1) ∷ []) 0) both.0).1 in
    (ltb-true d n (and_parts (nat_lt d n) true below).0, dims_small n ds both.1)

module _ (t : Types) (maps : List MapShape) (its : List Iter) (ins : List ValueId) (outs : ValueId) where
  output_of : Each IsMap maps → fit_operands t maps its ins outs ≡ true → match_output maps its ≡ true → Output maps its
  unfolding fit_operands match_output
  output_of made fit matched = by_map (output_map maps) refl (and_parts _ (on_output (output_map maps) (λ m. fits_operand (length its) m (t outs.0) && is_projected_permutation m)) fit).1 matched where
    by_map : (x : Option MapShape) → output_map maps ≡ x → on_output x (λ m. fits_operand (length its) m (t outs.0) && is_projected_permutation m) ≡ true →
        list_all (λ (i : ℕ × Iter). is_iterator i.1 (is_among i.0 (output_dimensions x))) (enumerate_from 0 its) ≡ true → Output maps its
    by_map None q h l = absurd cc
    by_map (Some m) q h l =
        let parts = and_parts (fits_operand (length its) m (t outs.0)) (is_projected_permutation m) h in
        let perm = to_dimensions m parts.1 in
        let dims = eqb-true m.dims (length its) (and_parts (m.dims == length its) _ (and_parts (m.dims == length its && length m.results == length (extents_of (t outs.0))) _ parts.0).0).0 in
        let good : map_fits m ≡ true = each_get IsMap maps (length maps - 1) m made q in
        record {
          found = m;
          is = q;
          ds = perm.0;
          takes = perm.1;
          distinct = perm.2;
          small = dims_small (length its) perm.0 (sym (λ j. list_all (expr_fits (dims j)) (perm.1 j)) ∙ good);
          parallel = sym (λ j. list_all (λ (i : ℕ × Iter). is_iterator i.1 (is_among i.0 ((ap dimensions_of perm.1 ∙ dims_of perm.0) j))) (enumerate_from 0 its)) ∙ l;
        }

-- THE ORDER OF EACH ELEMENT'S POINTS
module _ (order : List ℕ) (g : Structured) (permutes : is_order order (length g.iterators) ≡ true) (ins : List Datum) (out : Datum) (captured : List ℕ) where
  abbrev n : ℕ
  n = length g.iterators

  abbrev ord : Order order n
  ord = order_of order n permutes

  kept_reorders : Output g.maps g.iterators → length g.maps ≡ suc (length ins) → keeps_reductions order g.iterators ≡ true → Reorders order n ord g.maps g.payload ins out captured
  kept_reorders w counts keeps e a =
      ap (fold (through order n ord g.maps g.payload ins out captured) a)
      (picked_order order n ord g.iterators refl w.ds w.distinct w.small (reductions g.iterators w.ds w.parallel)
      (same_point-true _ _ keeps ∙ ap (λ k. reductions_in g.iterators (count_up 0 k)) ord.long) (picks order n ord g.maps g.payload ins out captured) takes
      (box order n ord g.maps g.payload ins out captured) (tabled_length _ n) e)
    where
      here : structured.output_map g.maps ins ≡ w.found
      here = get_some g.maps (length ins) w.found (record { dims = 0; results = [] }) (let k : length ins ≡ length g.maps - 1 = omega (arith, counts) in ap (slice_get g.maps) k ∙ w.is)

      takes : (e p : List ℕ) → picks order n ord g.maps g.payload ins out captured e p ≡ same_point (map (λ d. get_or p d 0) w.ds) e
      takes e p = (λ j. same_point (map_point (here j) p) e) ∙ (λ j. same_point (map to_nat (map (λ x. value_at x (map pos p)) (w.takes j))) e) ∙ ap (λ q. same_point q e) (picked w.ds p)

  reorders : Output g.maps g.iterators → length g.maps ≡ suc (length ins) → IsPayload g.payload → breaks_reduction_order order g ≡ false → Reorders order n ord g.maps g.payload ins out captured
  reorders w counts fits h = by_tests (keeps_reductions order g.iterators) (is_some (combiner_of g.payload)) refl refl h where
    by_tests : (a b : Bool) → keeps_reductions order g.iterators ≡ a → is_some (combiner_of g.payload) ≡ b → (not a && not b) ≡ false → Reorders order n ord g.maps g.payload ins out captured
    by_tests true b p q r = kept_reorders w counts p
    by_tests false true p q r = combiner_reorders order n ord g.maps g.payload ins out captured fits q
    by_tests false false p q r = absurd cc

-- THE STEP
each_map : (maps : List MapShape) → list_all map_fits maps ≡ true → Each IsMap maps
each_map [] e = tt
each_map (m ∷ ms) e = let h = and_parts (map_fits m) _ e in (h.0, each_map ms h.1)

as_generic_is : (kind : OpKind) (g : Structured) → as_generic kind ≡ Some g → kind ≡ kind_of g
as_generic_is (Generic maps iterators ins outs captured payload) g e = ap kind_of (same_Some _ g e)
as_generic_is kind g e = absurd cc

module _ (scope : Scope) (wanted : List Ty) (o : Op) (passes : OpPasses scope wanted o) (g : Structured) (kind : o.kind ≡ kind_of g) where
  typed : is_typed (type_among scope) passes.constants wanted o.results (kind_of g) ≡ true
  typed = ap (is_typed (type_among scope) passes.constants wanted o.results) (sym kind) ∙ passes.typed

  made_parts : Each IsMap g.maps × IsPayload g.payload
  unfolding is_typed
  made_parts =
      let both = and_parts _ (is_alike (type_among scope g.outs.0) (result_type o.results)) typed in
      let generic = and_parts _ _ both.0 in
      let many = and_parts (length g.maps == suc (length g.ins)) _ generic.0 in
      let payloads = and_parts _ _ generic.1 in
      let output = and_parts (has_elements (type_among scope g.outs.0) g.payload.out) _ payloads.1 in
      (each_map g.maps (and_parts (is_empty g.captured) _ many.1).1, (and_parts _ (payload_fits g.payload) output.1).1)

  output : Output g.maps g.iterators
  unfolding breaks_maps breaks_iterators
  output = output_of (type_among scope) g.maps g.iterators g.ins g.outs made_parts.0
      (and_parts _ (cover_dimensions (type_among scope) g.maps g.iterators g.ins g.outs) (not_false _ (ap (breaks_maps (type_among scope)) (sym kind) ∙ passes.maps))).0
      (not_false _ (ap breaks_iterators (sym kind) ∙ passes.iterators))

  one : HasOne o.results
  unfolding is_typed
  one = one_result (type_among scope g.outs.0) o.results (and_parts _ (is_alike (type_among scope g.outs.0) (result_type o.results)) typed).1

  counts : length g.maps ≡ suc (length g.ins)
  unfolding is_typed
  counts =
      let both = and_parts _ (is_alike (type_among scope g.outs.0) (result_type o.results)) typed in
      let generic = and_parts _ _ both.0 in
      eqb-true (length g.maps) (suc (length g.ins)) (and_parts (length g.maps == suc (length g.ins)) _ generic.0).0

  pub gives : (order : List ℕ) (u : State) → breaks_permutation order g ≡ false → breaks_reduction_order order g ≡ false → (qs : List (ValueId × Ty)) →
      HasOne o.results × GivesSame o.kind (kind_of (interchanged order g)) o.results qs u
  unfolding kind_meaning
  gives order u permutation reduction qs =
      let permutes = not_false _ permutation in
      let size : ℕ = length g.iterators in
      let ord = order_of order size permutes in
      let ins = values_in u.values g.ins in
      let out = u.values g.outs.0 in
      let outer = captured_in u.values g.captured in
      let same = result_turned order size ord g.maps g.payload ins out outer
      (reorders order g permutes ins out outer output (counts ∙ ap suc (sym (length-map g.ins (λ (v : ValueId). u.values v.0)))) made_parts.1 reduction) in (
        one,
        record {
          datum = generic_result g.maps size ins out outer g.payload;
          was = λ j. kind_meaning (kind j) o.results u;
          is = (λ j. made qs u (generic_result (map (turned_map order) g.maps) ((length-map order (iterator_at g.iterators) ∙ ord.long) j) ins out outer (turned_payload order g.payload)))
              ∙ (λ j. made qs u (same j));
        },
      )

pub interchange_right : (order : List ℕ) (op n : ℕ) (i : OpId) (body : List Op) → IsRight n i (interchange order op n) body
interchange_right order op n i body scope wanted o e found passes small formed = by_kind (as_generic o.kind) refl formed where
  by_kind : (x : Option Structured) → as_generic o.kind ≡ x → interchanges order op n x o ≡ Some e → HasSameEffect n scope o e
  by_kind None q h = absurd cc
  by_kind (Some g) q h = by_rules (breaks_permutation order g || breaks_reduction_order order g) refl h where
    by_rules : (b : Bool) → (breaks_permutation order g || breaks_reduction_order order g) ≡ b → (if b then None else Some (anew op n (kind_of (interchanged order g)) o)) ≡ Some e → HasSameEffect n scope o e
    by_rules true r h = absurd cc
    by_rules false r h =
        let rules = or_false (breaks_permutation order g) (breaks_reduction_order order g) r in
        subst (HasSameEffect n scope o) (same_Some _ e h)
        (anew_same n op (kind_of (interchanged order g)) scope o (λ u k. gives scope wanted o passes g (as_generic_is o.kind g q) order u rules.0 rules.1 (renumbered n o.results)))

pub interchange_keeps : InterchangeKeepsMeaning
interchange_keeps m i order verified =
    module_keeps m i (interchange order (fresh_op m.funcs) (fresh_value m.funcs)) verified (interchange_right order (fresh_op m.funcs) (fresh_value m.funcs) i)
