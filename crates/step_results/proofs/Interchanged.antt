-- What interchanging forms from a verified module verifies.
use Rattle.std.proofs.Common.{◌≡◌, ℕ, zero, suc, ◌-◌, ◌<◌, ◌==◌, ◌&&◌, ◌||◌, Bool, true, false, not, List, [], ◌∷◌, map, length, Option, Some, None, option_map, refl, ap, sym, subst, ◌∙◌, arith, eqb-true, zero-add}
use Rattle.std.specs.Prelude.{nat_le, is_some, slice_get, if◌then◌else◌}
use Rattle.std.specs.List.{list_all, zip}
use Rattle.std.proofs.lemmas.Bool.{and_parts, and_from}
use Rattle.std.proofs.lemmas.List.{length-map, get_or-map}
use Rattle.std.proofs.lemmas.Option.{same_Some}
use Rattle.affine_maps.specs.Shape.{MapShape}
use Rattle.affine_maps.specs.Map.{expr_fits, map_fits}
use Rattle.affine_maps.specs.Permutation.{dimensions_of, is_among, is_projected_permutation}
use Rattle.payload_ops.specs.Payload.{payload_fits}
use Rattle.mlir_base.specs.declared.types.ElemTy.{ElemTy}
use Rattle.mlir_ir.specs.Count.{operands}
use Rattle.mlir_ir.specs.declared.tree.Iter.{Iter}
use Rattle.mlir_ir.specs.declared.tree.Iter.TheVariants.{Parallel}
use Rattle.mlir_ir.specs.declared.tree.Op.{Op}
use Rattle.mlir_ir.specs.declared.tree.OpKind.{OpKind, Generic}
use Rattle.mlir_ir.specs.declared.tree.Ty.{Ty}
use Rattle.mlir_ir.specs.declared.tree.ValueId.{ValueId}
use Rattle.mlir_meaning.specs.Grids.{Each}
use Rattle.mlir_verify.specs.Built.{is_built_type, is_built_kind, is_built}
use Rattle.mlir_verify.specs.Constants.{Constants}
use Rattle.mlir_verify.specs.Extents.{axes_agree, keeps_output, keeps_extents, breaks_extents}
use Rattle.mlir_verify.specs.Limits.{is_small_type, has_few_dimensions}
use Rattle.mlir_verify.specs.Maps.{axes, extent_of, output_map, on_output, output_dimensions, fits_operand, fit_operands, cover_dimensions, is_iterator, match_output, breaks_maps, breaks_iterators}
use Rattle.mlir_verify.specs.Names.{in_scope}
use Rattle.mlir_verify.specs.Place.{Types, type_among, is_empty}
use Rattle.mlir_verify.specs.Tensors.{extents_of, has_elements, is_alike, result_type}
use Rattle.mlir_verify.specs.Types.{names_present, is_input, is_typed_payload, is_typed}
use Rattle.mlir_verify.specs.Windows.{has_no_points, operand_stays_in, inputs_stay_in, breaks_windows}
use Rattle.verified_runs.specs.Edits.{renumbered, anew}
use Rattle.verified_runs.specs.Forms.{Structured, kind_of, structured_of}
use Rattle.verified_runs.specs.Fresh.{fresh_value, fresh_op}
use Rattle.verified_runs.specs.Passes.{Scope, OpPasses}
use Rattle.verified_runs.proofs.NamedLaws.{generic_passes}
use Rattle.verified_runs.proofs.NamedPasses.{KeepsRules}
use Rattle.structured_steps.specs.Interchange.{is_order, turned, origin, turned_expr, turned_map, turned_step, iterator_at, breaks_permutation, breaks_reduction_order, interchanged, as_generic, interchanges, interchange}
use Rattle.structured_steps.proofs.Turning.{Order, order_of}
use Rattle.step_results.specs.Edits.{IsTarget, FitsThere, Fits}
use Rattle.step_results.specs.Laws.{InterchangedVerifies}
use Rattle.step_results.proofs.Anew.{renumbered_types, fresh_results, generic_fits, structured_one, structured_goes_on}
use Rattle.step_results.proofs.Edits.{edits_verify}
use Rattle.verified_runs.proofs.ReusedBodies.{or_false}
use Rattle.step_results.proofs.Small.{numbers_below}
use Rattle.step_results.proofs.TurnedMaps.{map_turned, none_negative, dimensions_turned, among_at, projected_turned}
use Rattle.step_results.proofs.TurnedPayloads.{payload_kept, names_kept}
use Rattle.step_results.proofs.TurnedAxes.{each_from, all_from, all_below, turn, axes_turned, output_turned, extent_turned, extent_back, agree_turned, inputs_stay, no_points_turned}

not_false : (b : Bool) → not b ≡ false → b ≡ true
not_false true e = refl
not_false false e = absurd cc

or_cases : (a b c d : Bool) → (a ≡ true → c ≡ true) → b ≡ d → (a || b) ≡ true → (c || d) ≡ true
or_cases true b c d f e h = ap (λ x. x || d) (f refl)
or_cases false b true d f e h = refl
or_cases false b false d f e h = sym e ∙ h

-- the output's map, where the test of it passes
last_map : (x : Option MapShape) (test : MapShape → Bool) → on_output x test ≡ true → (m : MapShape) × (x ≡ Some m) × (test m ≡ true)
last_map None test h = absurd cc
last_map (Some m) test h = (m, refl, h)

zip_turned : (order : List ℕ) (P Q : ValueId × MapShape → Bool) → ((v : ValueId) (m : MapShape) → P (v, turned_map order m) ≡ Q (v, m)) → (ins : List ValueId) (maps : List MapShape) →
    list_all P (zip ins (map (turned_map order) maps)) ≡ list_all Q (zip ins maps)
zip_turned order P Q same [] maps = refl
zip_turned order P Q same (v ∷ ins) [] = refl
zip_turned order P Q same (v ∷ ins) (m ∷ maps) = λ j. same v m j && zip_turned order P Q same ins maps j

-- EACH MAP HAS ONE DIMENSION FOR EACH ITERATOR
module _ (n : ℕ) (t : Types) where
  dims_fit : (m : MapShape) (ty : Option Ty) → fits_operand n m ty ≡ true → m.dims ≡ n
  dims_fit m ty h = eqb-true m.dims n (and_parts (m.dims == n) _ (and_parts (m.dims == n && length m.results == length (extents_of ty)) _ h).0).0

  all_dims : (ins : List ValueId) (maps : List MapShape) (k : ℕ) (last : MapShape) → length maps ≡ suc (length ins) → suc k ≡ length maps →
      list_all (λ (x : ValueId × MapShape). fits_operand n x.1 (t (x.0).0)) (zip ins maps) ≡ true → slice_get maps k ≡ Some last → last.dims ≡ n → Each (λ (m : MapShape). m.dims ≡ n) maps
  all_dims ins [] k last l e h q d = tt
  all_dims [] (m ∷ []) zero last l e h q d = (ap (λ (x : MapShape). x.dims) (same_Some m last q) ∙ d, tt)
  all_dims [] (m ∷ []) (suc k) last l e h q d = absurd cc
  all_dims [] (m ∷ (p ∷ maps)) k last l e h q d = absurd (omega (arith, l))
  all_dims (v ∷ ins) (m ∷ maps) zero last l e h q d = absurd (omega (arith, l, e))
  all_dims (v ∷ ins) (m ∷ maps) (suc k) last l e h q d =
      let both = and_parts (fits_operand n m (t v.0)) _ h in
      (dims_fit m (t v.0) both.0, all_dims ins maps k last (omega (arith, l)) (omega (arith, e)) both.1 q d)

  exprs_fit : (maps : List MapShape) → Each (λ (m : MapShape). m.dims ≡ n) maps → list_all map_fits maps ≡ true → Each (λ (m : MapShape). list_all (expr_fits n) m.results ≡ true) maps
  exprs_fit [] d h = tt
  exprs_fit (m ∷ maps) d h =
      let both = and_parts (map_fits m) _ h in
      (sym (ap (λ k. list_all (expr_fits k) m.results) d.0) ∙ both.0, exprs_fit maps d.1 both.1)

  at_map : (P : MapShape → Type 0) (maps : List MapShape) (k : ℕ) (m : MapShape) → Each P maps → slice_get maps k ≡ Some m → P m
  at_map P [] k m h q = absurd cc
  at_map P (p ∷ maps) zero m h q = subst P (same_Some p m q) h.0
  at_map P (p ∷ maps) (suc k) m h q = at_map P maps k m h.1 q

maps_turned : (order : List ℕ) (n : ℕ) (o : Order order n) (maps : List MapShape) → Each (λ (m : MapShape). m.dims ≡ n) maps → list_all map_fits maps ≡ true → list_all map_fits (map (turned_map order) maps) ≡ true
maps_turned order n o [] d h = refl
maps_turned order n o (m ∷ maps) d h = let both = and_parts (map_fits m) _ h in and_from _ _ (map_turned order n o m d.0 both.0) (maps_turned order n o maps d.1 both.1)

-- THE RULES
module _ (t : Types) (c : Constants) (wanted : List Ty) (rs : Scope) (order : List ℕ) (g : Structured) (permutes : is_order order (length g.iterators) ≡ true) (kept : KeepsRules t c wanted rs (kind_of g)) where
  abbrev n : ℕ
  n = length g.iterators

  abbrev ord : Order order n
  ord = order_of order n permutes

  abbrev maps : List MapShape
  maps = map (turned_map order) g.maps

  abbrev its : List Iter
  its = map (iterator_at g.iterators) order

  size : length its ≡ n
  size = length-map order (iterator_at g.iterators) ∙ ord.long

  -- V2 by parts
  record Typed : Type 0 where
    count : (length g.maps == suc (length g.ins)) ≡ true
    captured : is_empty g.captured ≡ true
    maps_fit : list_all map_fits g.maps ≡ true
    inputs : (length g.ins == length g.payload.ins && list_all (λ (x : ValueId × ElemTy). is_input (t (x.0).0) (c (x.0).0) x.1) (zip g.ins g.payload.ins)) ≡ true
    output : has_elements (t g.outs.0) g.payload.out ≡ true
    names : list_all (λ s. names_present n (length g.captured) s.op) g.payload.steps ≡ true
    fits : payload_fits g.payload ≡ true
    result : is_alike (t g.outs.0) (result_type rs) ≡ true

  parts : Typed
  unfolding is_typed
  parts =
      let both = and_parts _ (is_alike (t g.outs.0) (result_type rs)) kept.typed in
      let generic = and_parts (length g.maps == suc (length g.ins) && (is_empty g.captured && list_all map_fits g.maps)) (is_typed_payload t c n g.ins g.outs g.captured g.payload) both.0 in
      let front = and_parts (length g.maps == suc (length g.ins)) (is_empty g.captured && list_all map_fits g.maps) generic.0 in
      let rest = and_parts (is_empty g.captured) (list_all map_fits g.maps) front.1 in
      let payload = and_parts (length g.ins == length g.payload.ins && list_all (λ (x : ValueId × ElemTy). is_input (t (x.0).0) (c (x.0).0) x.1) (zip g.ins g.payload.ins)) _ generic.1 in
      let output = and_parts (has_elements (t g.outs.0) g.payload.out) _ payload.1 in
      let steps = and_parts (list_all (λ s. names_present n (length g.captured) s.op) g.payload.steps) (payload_fits g.payload) output.1 in
      record { count = front.0; captured = rest.0; maps_fit = rest.1; inputs = payload.0; output = output.0; names = steps.0; fits = steps.1; result = both.1 }

  fitting : fit_operands t g.maps g.iterators g.ins g.outs ≡ true
  unfolding breaks_maps
  fitting = (and_parts _ (cover_dimensions t g.maps g.iterators g.ins g.outs) (not_false _ kept.maps)).0

  covering : cover_dimensions t g.maps g.iterators g.ins g.outs ≡ true
  unfolding breaks_maps
  covering = (and_parts (fit_operands t g.maps g.iterators g.ins g.outs) _ (not_false _ kept.maps)).1

  operands_fit : list_all (λ (x : ValueId × MapShape). fits_operand n x.1 (t (x.0).0)) (zip g.ins g.maps) ≡ true
  unfolding fit_operands
  operands_fit = (and_parts _ (on_output (output_map g.maps) (λ m. fits_operand n m (t g.outs.0) && is_projected_permutation m)) fitting).0

  last : (m : MapShape) × (output_map g.maps ≡ Some m) × ((fits_operand n m (t g.outs.0) && is_projected_permutation m) ≡ true)
  unfolding fit_operands
  last = last_map (output_map g.maps) (λ m. fits_operand n m (t g.outs.0) && is_projected_permutation m)
      (and_parts (list_all (λ (x : ValueId × MapShape). fits_operand n x.1 (t (x.0).0)) (zip g.ins g.maps)) _ fitting).1

  last_fits : (fits_operand n last.0 (t g.outs.0) ≡ true) × (is_projected_permutation last.0 ≡ true)
  last_fits = and_parts (fits_operand n last.0 (t g.outs.0)) (is_projected_permutation last.0) last.2

  many : length g.maps ≡ suc (length g.ins)
  many = eqb-true (length g.maps) (suc (length g.ins)) parts.count

  dims : Each (λ (m : MapShape). m.dims ≡ n) g.maps
  dims = all_dims n t g.ins g.maps (length g.maps - 1) last.0 many (omega (arith, many)) operands_fit last.1 (dims_fit n t last.0 (t g.outs.0) last_fits.0)

  exprs : Each (λ (m : MapShape). list_all (expr_fits n) m.results ≡ true) g.maps
  exprs = exprs_fit n t g.maps dims parts.maps_fit

  last_exprs : list_all (expr_fits n) (last.0).results ≡ true
  last_exprs = at_map n t (λ m. list_all (expr_fits n) m.results ≡ true) g.maps (length g.maps - 1) last.0 exprs last.1

  interchanged_typed : is_typed t c wanted rs (kind_of (interchanged order g)) ≡ true
  unfolding is_typed
  interchanged_typed =
      let p = parts in
      and_from _ _
      (and_from _ _ (and_from _ _ (ap (λ k. k == suc (length g.ins)) (length-map g.maps (turned_map order)) ∙ p.count) (and_from _ _ p.captured (maps_turned order n ord g.maps dims p.maps_fit)))
      (and_from _ _ p.inputs (and_from _ _ p.output (and_from _ _
      ((λ j. list_all (λ s. names_present (size j) (length g.captured) s.op) (map (turned_step order) g.payload.steps)) ∙ names_kept order n ord (length g.captured) g.payload.steps p.names)
      (payload_kept order g.payload ∙ p.fits)))))
      p.result

  fits_same : (m : MapShape) (ty : Option Ty) → fits_operand n (turned_map order m) ty ≡ fits_operand n m ty
  fits_same m ty = λ j. (m.dims == n && length-map m.results (turned_expr order) j == length (extents_of ty)) && none_negative order n ord m.results j

  last_turned : output_map maps ≡ Some (turned_map order last.0)
  last_turned = output_turned order n ord g.maps ∙ ap (option_map (turned_map order)) last.1

  all_axes : axes t maps g.ins g.outs ≡ map (turn order) (axes t g.maps g.ins g.outs)
  all_axes = axes_turned order n ord t g.maps g.ins g.outs

  interchanged_fit : fit_operands t maps its g.ins g.outs ≡ true
  unfolding fit_operands
  interchanged_fit =
      and_from _ _
      ((λ j. list_all (λ (x : ValueId × MapShape). fits_operand (size j) x.1 (t (x.0).0)) (zip g.ins maps))
      ∙ zip_turned order (λ x. fits_operand n x.1 (t (x.0).0)) (λ x. fits_operand n x.1 (t (x.0).0)) (λ v m. fits_same m (t v.0)) g.ins g.maps ∙ operands_fit)
      ((λ j. on_output (last_turned j) (λ m. fits_operand (size j) m (t g.outs.0) && is_projected_permutation m))
      ∙ and_from _ _ (fits_same last.0 (t g.outs.0) ∙ last_fits.0) (projected_turned order n ord last.0 last_exprs last_fits.1))

  interchanged_cover : cover_dimensions t maps its g.ins g.outs ≡ true
  unfolding cover_dimensions
  interchanged_cover = all_from Parallel (λ (i : ℕ × Iter). is_some (extent_of (axes t maps g.ins g.outs) i.0)) its 0 (λ k l.
      let inside : k < n = omega (arith, l, size) in
      let all = axes t g.maps g.ins g.outs in
      (λ j. is_some (extent_of (all_axes j) (zero-add k j))) ∙ ap is_some (extent_turned order n ord all k inside) ∙ sym (ap (λ d. is_some (extent_of all d)) (zero-add (origin order k)))
      ∙ each_from Parallel (λ (i : ℕ × Iter). is_some (extent_of all i.0)) g.iterators 0 covering (origin order k) (ord.below k inside))

  interchanged_maps : breaks_maps t (kind_of (interchanged order g)) ≡ false
  unfolding breaks_maps
  interchanged_maps = λ j. not (interchanged_fit j && interchanged_cover j)

  interchanged_match : match_output maps its ≡ true
  unfolding match_output breaks_iterators
  interchanged_match = all_from Parallel (λ (i : ℕ × Iter). is_iterator i.1 (is_among i.0 (output_dimensions (output_map maps)))) its 0 (λ k l.
      let inside : k < n = omega (arith, l, size) in
      let was : match_output g.maps g.iterators ≡ true = not_false _ kept.iterators in
      let found = last.0 in
      (λ j. is_iterator (get_or-map (iterator_at g.iterators) order k 0 Parallel (omega (arith, inside, ord.long)) j)
      (is_among (zero-add k j) ((ap output_dimensions last_turned ∙ dimensions_turned order n ord found.results) j)))
      ∙ ap (is_iterator (iterator_at g.iterators (origin order k))) (among_at order n ord (dimensions_of found.results) k inside)
      ∙ sym (λ j. is_iterator (iterator_at g.iterators (origin order k)) (is_among (zero-add (origin order k) j) (output_dimensions (last.1 j))))
      ∙ each_from Parallel (λ (i : ℕ × Iter). is_iterator i.1 (is_among i.0 (output_dimensions (output_map g.maps)))) g.iterators 0 was (origin order k) (ord.below k inside))

  interchanged_iterators : breaks_iterators (kind_of (interchanged order g)) ≡ false
  unfolding breaks_iterators
  interchanged_iterators = ap not interchanged_match

  axes_small : Each (λ a. a.0 < n) (axes t g.maps g.ins g.outs)
  axes_small = all_below n t g.maps g.ins g.outs last.0 last.1 exprs last_exprs

  interchanged_extents : breaks_extents t wanted rs (kind_of (interchanged order g)) ≡ false
  unfolding breaks_extents keeps_extents
  interchanged_extents =
      let both = and_parts (axes_agree (axes t g.maps g.ins g.outs)) (keeps_output t rs g.outs) (not_false _ kept.extents) in
      ap not (and_from _ _ (ap axes_agree all_axes ∙ agree_turned order n ord (axes t g.maps g.ins g.outs) axes_small both.0) both.1)

  interchanged_windows : breaks_windows t (kind_of (interchanged order g)) ≡ false
  unfolding breaks_windows inputs_stay_in
  interchanged_windows =
      let all = axes t g.maps g.ins g.outs in
      let old = extent_of all in
      let new = extent_of (map (turn order) all) in
      let same : (d : ℕ) → d < n → new (turned order d) ≡ old d = λ d l. extent_back order n ord all d l in
      ap not ((λ j. has_no_points (extent_of (all_axes j)) its || list_all (λ (x : MapShape × ValueId). operand_stays_in (extent_of (all_axes j)) x.0 (t (x.1).0)) (zip maps g.ins))
      ∙ or_cases (has_no_points old g.iterators) (list_all (λ (x : MapShape × ValueId). operand_stays_in old x.0 (t (x.1).0)) (zip g.maps g.ins))
      (has_no_points new its) (list_all (λ (x : MapShape × ValueId). operand_stays_in new x.0 (t (x.1).0)) (zip maps g.ins))
      (λ h. no_points_turned order n ord old new same g.iterators its refl size h) (sym (inputs_stay order n ord old new same t g.maps g.ins exprs)) (not_false _ kept.windows))

  pub interchanged_keeps : KeepsRules t c wanted rs (kind_of (interchanged order g))
  interchanged_keeps = record { typed = interchanged_typed; maps = interchanged_maps; iterators = interchanged_iterators; extents = interchanged_extents; windows = interchanged_windows }

-- THE STEP
as_generic_is : (kind : OpKind) (g : Structured) → as_generic kind ≡ Some g → kind ≡ kind_of g
as_generic_is (Generic maps iterators ins outs captured payload) g e = ap kind_of (same_Some _ g e)
as_generic_is kind g e = absurd cc

module _ (scope : Scope) (wanted : List Ty) (o : Op) (h : OpPasses scope wanted o) (g : Structured) (kind : o.kind ≡ kind_of g) (order : List ℕ) (permutes : is_order order (length g.iterators) ≡ true) where
  abbrev t : Types
  t = type_among scope

  generic_keeps : KeepsRules t h.constants wanted o.results (kind_of g)
  generic_keeps = subst (KeepsRules t h.constants wanted o.results) kind (record { typed = h.typed; maps = h.maps; iterators = h.iterators; extents = h.extents; windows = h.windows })

  -- the new generic passes with the results of the old one
  in_place : OpPasses scope wanted (record { id = o.id; results = o.results; kind = kind_of (interchanged order g) })
  unfolding is_built
  in_place =
      let rules = interchanged_keeps t h.constants wanted o.results order g permutes generic_keeps in
      record {
        constants = h.constants;
        news = h.news;
        known = sym (ap (λ k. in_scope t (operands k)) kind) ∙ h.known;
        built = (and_parts (is_built_kind o.kind) (list_all (λ (r : ValueId × Ty). is_built_type r.1) o.results) h.built).1;
        typed = rules.typed;
        maps = rules.maps;
        iterators = rules.iterators;
        extents = rules.extents;
        windows = rules.windows;
      }

  own_form : (s : Structured) → structured_of t (kind_of s) ≡ Some s
  unfolding structured_of
  own_form s = refl

  pub interchanged_there : (n k : ℕ) → IsTarget n scope wanted o → FitsThere n k scope wanted o (anew k n (kind_of (interchanged order g)) o)
  interchanged_there n k target =
      let ig = interchanged order g in
      let limits = and_parts (list_all (λ (r : ValueId × Ty). is_small_type r.1) o.results) (has_few_dimensions o.kind) target.small in
      let few : nat_le (length g.iterators) 12 ≡ true = sym (ap has_few_dimensions kind) ∙ limits.1 in
      let mine : structured_of t o.kind ≡ Some g = ap (structured_of t) kind ∙ own_form g in
      generic_fits n k ig scope wanted o target (structured_one t h.constants wanted o.results o.kind g mine h.typed) (structured_goes_on t h.constants wanted o.results o.kind g mine)
      (ap (λ s. nat_le s 12) (length-map order (iterator_at g.iterators) ∙ (order_of order (length g.iterators) permutes).long) ∙ few)
      (generic_passes scope wanted (record { id = o.id; results = o.results; kind = kind_of ig }) ig (record { 0 = k }) (renumbered n o.results) in_place (own_form ig) (renumbered_types n o.results)
      (fresh_results n n scope o.results (omega arith) (numbers_below scope n target.scope_below)))

pub interchange_fits : (order : List ℕ) (n k : ℕ) → Fits n k (interchange order k n)
interchange_fits order n k scope wanted o e target made = by_kind (as_generic o.kind) refl made where
  by_kind : (x : Option Structured) → as_generic o.kind ≡ x → interchanges order k n x o ≡ Some e → FitsThere n k scope wanted o e
  by_kind None q h = absurd cc
  by_kind (Some g) q h = by_rules (breaks_permutation order g || breaks_reduction_order order g) refl h where
    by_rules : (b : Bool) → (breaks_permutation order g || breaks_reduction_order order g) ≡ b → (if b then None else Some (anew k n (kind_of (interchanged order g)) o)) ≡ Some e → FitsThere n k scope wanted o e
    by_rules true r h = absurd cc
    by_rules false r h =
        let rules = or_false (breaks_permutation order g) (breaks_reduction_order order g) r in
        subst (FitsThere n k scope wanted o) (same_Some _ e h)
        (interchanged_there scope wanted o target.passes g (as_generic_is o.kind g q) order (not_false _ rules.0) n k target)

pub interchanged_verifies : InterchangedVerifies
interchanged_verifies m i order verified =
    edits_verify m i (interchange order (fresh_op m.funcs) (fresh_value m.funcs)) verified (interchange_fits order (fresh_value m.funcs) (fresh_op m.funcs))
