-- The pair of a producer and its consumer as one operation.
use Rattle.std.proofs.Common.{◌≡◌, ◌≢◌, ℕ, zero, suc, ◌<◌, true, false, List, [], ◌∷◌, ◌++◌, map, length, Option, Some, ⊎_elim, refl, ap, sym, subst, ◌∙◌, arith, append_assoc, eq-eqb}
use Rattle.std.specs.Prelude.{not, is_some, option_map, slice_get}
use Rattle.std.specs.List.{list_all}
use Rattle.std.proofs.lemmas.Bool.{true≢false}
use Rattle.std.proofs.lemmas.List.{length-map, map-append}
use Rattle.std.proofs.lemmas.Option.{slice_get_within, slice_get-map}
use Rattle.affine_maps.specs.Compose.{composed}
use Rattle.affine_maps.specs.Shape.{MapShape}
use Rattle.payload_laws.specs.Laws.{NeverTraps}
use Rattle.payload_laws.proofs.Traps.{never_traps}
use Rattle.mlir_ir.specs.Count.{operands}
use Rattle.mlir_ir.specs.Shape.{FuncShape, TensorShape}
use Rattle.mlir_ir.specs.declared.tree.Op.{Op}
use Rattle.mlir_ir.specs.declared.tree.Ty.{Ty}
use Rattle.mlir_ir.specs.declared.tree.ValueId.{ValueId}
use Rattle.mlir_meaning.specs.Grids.{InBox, Each}
use Rattle.mlir_meaning.specs.Points.{select_map}
use Rattle.mlir_meaning.specs.States.{State, Outcome, Goes, Ends, Fails, names_of, made, defines, then_goes, width_of}
use Rattle.mlir_meaning.specs.Structured.{generic_step, generic_element, generic_result}
use Rattle.mlir_meaning.specs.Meaning.{values_in, captured_in, scalar_in, kind_meaning, run, initial_state, meaning}
use Rattle.mlir_meaning.specs.declared.values.Datum.{Datum}
use Rattle.mlir_meaning.specs.declared.values.Datum.TheVariants.{Cells}
use Rattle.mlir_meaning.specs.Contexts.{Here}
use Rattle.mlir_meaning.specs.Names.{DoesNotName}
use Rattle.mlir_meaning.specs.Laws.{all_but}
use Rattle.mlir_meaning.proofs.Grids.{each_more}
use Rattle.mlir_meaning.proofs.Runs.{run-append, run-one}
use Rattle.mlir_meaning.proofs.Settled.{HasCells, HasTrap, view}
use Rattle.affine_maps.specs.Permutation.{is_among}
use Rattle.mlir_verify.specs.Names.{numbers}
use Rattle.mlir_verify.specs.Place.{type_among}
use Rattle.verified_runs.specs.Typed.{AreOf, types_of}
use Rattle.verified_runs.specs.Passes.{Scope, BodyPasses, scope_after}
use Rattle.verified_runs.proofs.Runs.{comes_typed, rest_passes}
use Rattle.verified_runs.specs.Forms.{Structured, kind_of}
use Rattle.point_laws.specs.Orders.{is_order}
use Rattle.verified_runs.proofs.Steps.{added}
use Rattle.region_laws.specs.Operands.{maps_of}
use Rattle.point_laws.specs.Boxes.{picks}
use Rattle.payload_forms.specs.Joined.{spliced, joined}
use Rattle.fuse_laws.specs.Joined.{Fit}
use Rattle.fuse_laws.specs.Fused.{pulled, joint, fused}
use Rattle.region_laws.specs.Instances.{Instance, result_of, IsTypedInstance}
use Rattle.pair_laws.specs.Pairs.{captured_of, place_in, joint_of, raw_op, fused_op, result_in, placed_in, IsPlacedIn, Stands, fused_func}
use Rattle.pair_laws.specs.Laws.{PairKeepsMeaning}
use Rattle.fuse_laws.proofs.OnePoint.{one_point}
use Rattle.fuse_laws.proofs.Fusing.{read_counts, result_is, fused_gives}
use Rattle.mlir_meaning.proofs.Removed.{in_place, removal}
use Rattle.pair_laws.proofs.Forming.{fused_same}
use Rattle.mlir_meaning.proofs.Held.{Untouched}
use Rattle.pair_laws.proofs.Held.{still_holds}
use Rattle.pair_laws.proofs.Names.{among_more, each_known, untouched}
use Rattle.tile_bridge.specs.Instances.{input_maps}

-- SPLICED LISTS
pub spliced-map : {A B : Type 0} (f : A → B) (k : ℕ) (ys xs : List A) → map f (spliced k ys xs) ≡ spliced k (map f ys) (map f xs)
spliced-map f k ys [] = refl
spliced-map f zero ys (x ∷ xs) = map-append f ys xs
spliced-map f (suc k) ys (x ∷ xs) = ap (λ l. f x ∷ l) (spliced-map f k ys xs)

pub spliced-append : {A : Type 0} (k : ℕ) (ys xs zs : List A) → k < length xs → spliced k ys (xs ++ zs) ≡ spliced k ys xs ++ zs
spliced-append k ys [] zs l = absurd (omega arith)
spliced-append zero ys (x ∷ xs) zs l = sym (append_assoc ys xs zs)
spliced-append (suc k) ys (x ∷ xs) zs l = ap (λ l. x ∷ l) (spliced-append k ys xs zs (omega arith))

-- OPERATIONS AS GENERICS WITH A BOX
placed_result : (g : Structured) (box ds : List ℕ) (u : State) → IsPlacedIn g box ds u → result_in g u ≡ result_of (placed_in g box ds u)
placed_result g box ds u h = λ j. generic_result (h.maps j) (h.dims j) (values_in u.values g.ins) (h.out j) (captured_in u.values g.captured) g.payload

fused_result : (p c : Structured) (k : ℕ) (m : MapShape) (ds p_box c_box c_ds : List ℕ) (u : State) → IsPlacedIn c c_box c_ds u → k < length (input_maps c) →
    result_in (raw_op p c k m ds) u
    ≡ result_of (fused (placed_in p p_box ds u) (placed_in c c_box c_ds u) k m (captured_in u.values (captured_of p c)) (place_in (captured_of p c) p.captured) (place_in (captured_of p c) c.captured))
fused_result p c k m ds p_box c_box c_ds u h l =
    let maps = ap (spliced k (map (λ i. composed i (pulled ds m)) (input_maps p))) h.maps
    ∙ spliced-append k (map (λ i. composed i (pulled ds m)) (input_maps p)) (input_maps c) (select_map (length c_box) c_ds ∷ []) l in
    let ins = spliced-map (λ (v : ValueId). u.values v.0) k p.ins c.ins in
    let count : length (captured_of p c) ≡ length (captured_in u.values (captured_of p c)) = sym (length-map (captured_of p c) (scalar_in u.values)) in
    λ j. generic_result (maps j) (h.dims j) (ins j) (h.out j) (captured_in u.values (captured_of p c))
    (joined (joint k ds m (count j) (place_in (captured_of p c) p.captured) (place_in (captured_of p c) c.captured)) p.payload c.payload)

-- a producer that can't trap gives a tensor
pub gives_some : (g : Instance) → IsTypedInstance g → is_order g.ds (length g.box) ≡ true → NeverTraps g.payload → (d : Datum) × (result_of g ≡ Some d)
gives_some g typed order never =
    let step = generic_step (maps_of g.maps g.box g.ds) g.ins g.captured g.payload in
    let h : List ℕ → Option ℕ = generic_element (picks g.ds) step g.box g.out in
    let is = result_is g (read_counts g.box g.maps g.ins typed.read) typed.has_box in
    ⊎_elim
    (λ (t : HasCells g.out.extents h). (Cells g.width (record { extents = g.out.extents; cells = t.cells }), is ∙ ap (option_map (Cells g.width)) t.settles))
    (λ (t : HasTrap g.out.extents h). absurd (
    let inside : InBox (picks g.ds g.box) t.point = subst (λ es. InBox es t.point) typed.extents t.inside in
    never _ (sym (one_point g.ds g.box step g.out t.point order inside) ∙ t.missing)))
    (view g.out.extents h)

-- RUNS
goes_through : (x : Outcome) (k : State → Outcome) (u : State) → then_goes x k ≡ Goes u → (s : State) × (x ≡ Goes s) × (k s ≡ Goes u)
goes_through (Goes s) k u h = (s, refl, h)
goes_through (Ends ds) k u h = absurd cc
goes_through (Fails x) k u h = absurd cc

func_with : FuncShape → List Op → FuncShape
func_with f body = record { name = f.name; params = f.params; results = f.results; body = body }

module _ (f : FuncShape) (before mid after : List Op) (po co : Op) (p c : Structured) (k : ℕ) (m : MapShape) (ds : List ℕ) (w : Stands f before mid after po co p c k m ds)
    (inputs : List TensorShape) (typed : AreOf (types_of f.params) inputs) where
  abbrev new : Op
  new = record { id = co.id; results = co.results; kind = kind_of (fused_op p c k m ds) }

  abbrev scope : Scope
  scope = scope_after f.params before

  abbrev start : State
  start = initial_state f.params inputs

  tail : BodyPasses scope f.results (po ∷ (mid ++ (co ∷ after)))
  tail = rest_passes f.results before (po ∷ (mid ++ (co ∷ after))) f.params (subst (BodyPasses f.params f.results) w.body w.passes.body)

  reads : Each (λ (v : ValueId). is_among v.0 (numbers scope) ≡ true) (p.ins ++ (p.outs ∷ p.captured))
  reads = each_known scope (p.ins ++ (p.outs ∷ p.captured)) (ap (λ kind. list_all (λ (v : ValueId). is_some (type_among scope v.0)) (operands kind)) (sym w.p_kind) ∙ (tail.0).known)

  news : is_among w.result.0 (numbers scope) ≡ false
  news = (subst (Each (λ (r : ValueId × Ty). is_among (r.0).0 (numbers scope) ≡ false)) w.defines_it (tail.0).news).0

  own : Each (λ (v : ValueId). v.0 ≢ w.result.0) (p.ins ++ (p.outs ∷ p.captured))
  own = each_more (λ (v : ValueId). is_among v.0 (numbers scope) ≡ true) (λ (v : ValueId). v.0 ≢ w.result.0)
      (λ v h e. true≢false (sym h ∙ ap (λ n. is_among n (numbers scope)) e ∙ news)) (p.ins ++ (p.outs ∷ p.captured)) reads

  later : (v : ℕ) → is_among v (numbers (scope ++ po.results)) ≡ true → Each (λ (o : Op). DoesNotName v (names_of o.results)) mid
  later v = untouched f.results mid (co ∷ after) (scope ++ po.results) v tail.2

  later_reads : Each (Untouched mid) (p.ins ++ (p.outs ∷ p.captured))
  later_reads = each_more (λ (v : ValueId). is_among v.0 (numbers scope) ≡ true) (Untouched mid) (λ v h. later v.0 (among_more scope po.results v.0 h)) (p.ins ++ (p.outs ∷ p.captured)) reads

  later_result : Untouched mid w.result
  later_result = later w.result.0 (subst (Each (λ (r : ValueId × Ty). is_among (r.0).0 (numbers (scope ++ po.results)) ≡ true)) w.defines_it (added scope po.results)).0

  -- AT THE CONSUMER
  abbrev front : List Op
  front = before ++ (po ∷ mid)

  split : f.body ≡ front ++ (co ∷ after)
  split = w.body ∙ sym (append_assoc before (po ∷ mid) (co ∷ after))

  generic_runs : (g : Structured) (o : Op) (u : State) → o.kind ≡ kind_of g → run (o ∷ []) u ≡ made o.results u (result_in g u)
  unfolding kind_meaning
  generic_runs g o u e = run-one o u ∙ (λ j. kind_meaning (e j) o.results u)

  same_there : (u : State) → run front start ≡ Goes u → run (new ∷ []) u ≡ run (co ∷ []) u
  same_there u reach =
      let pair = w.pairs u (comes_typed f (Here front after) (co ∷ []) inputs u w.passes split typed reach) in
      let ran = goes_through (run before start) (run (po ∷ mid)) u (sym (run-append before (po ∷ mid) start) ∙ reach) in
      let held = still_holds p po w.result w.ty mid w.p_kind w.defines_it own later_reads later_result ran.0 u ran.2 in
      let placed_p = placed_in p pair.p_box ds u in
      let placed_c = placed_in c pair.c_box pair.c_ds u in
      let all = captured_of p c in
      let fit : Fit (joint_of p c k m ds) (length pair.p_box) (length placed_p.captured) (length pair.c_box) (length placed_c.captured) p.payload c.payload =
      subst (λ n. Fit (joint k ds m n (place_in all p.captured) (place_in all c.captured)) (length pair.p_box) (length placed_p.captured) (length pair.c_box) (length placed_c.captured) p.payload c.payload)
      (length-map all (scalar_in u.values)) pair.fuses.fit in
      let result : result_of placed_p ≡ Some held.0 = sym (placed_result p pair.p_box ds u pair.p_placed) ∙ held.1 in
      let there : slice_get (values_in u.values c.ins) k ≡ Some held.0 =
      slice_get-map (λ (v : ValueId). u.values v.0) c.ins k ∙ ap (option_map (λ (v : ValueId). u.values v.0)) w.operand ∙ ap Some held.2 in
      generic_runs (fused_op p c k m ds) new u refl
      ∙ ap (made co.results u) (fused_same p c k m ds (length pair.p_box) (length placed_p.captured) (length pair.c_box) (length placed_c.captured) (width_of (u.values c.outs.0)) u fit pair.elem
      ∙ fused_result p c k m ds pair.p_box pair.c_box pair.c_ds u pair.c_placed (slice_get_within (input_maps c) k m pair.fuses.map_there)
      ∙ fused_gives placed_p placed_c k m (captured_in u.values all) (place_in all p.captured) (place_in all c.captured) held.0 pair.fuses result there
      ∙ sym (placed_result c pair.c_box pair.c_ds u pair.c_placed))
      ∙ sym (generic_runs c co u w.c_kind)

  -- AT THE PRODUCER
  defines_there : (u : State) → run before start ≡ Goes u → (es : List Datum) × (run (po ∷ []) u ≡ defines po.results u es)
  defines_there u reach =
      let there = w.produces u (comes_typed f (Here before (mid ++ (co ∷ after))) (po ∷ []) inputs u w.passes w.body typed reach) in
      let d = gives_some (placed_in p there.box ds u) there.typed there.order (never_traps p.payload w.fits w.no_trap) in
      (d.0 ∷ [], generic_runs p po u w.p_kind ∙ ap (made po.results u) (placed_result p there.box ds u there.placed ∙ d.1))

  pub pair_keeps_here : meaning (fused_func f before mid after co (fused_op p c k m ds)) inputs ≡ meaning f inputs
  unfolding func_with
  pair_keeps_here =
      removal (all_but w.result) (Here before (mid ++ (new ∷ after))) po f inputs
      (subst (Each (λ (v : ValueId). all_but w.result v.0 ≡ false)) (ap names_of (sym w.defines_it)) ((λ j. not (eq-eqb w.result.0 w.result.0 refl j)), tt))
      (w.unused_before, w.unused_after) defines_there
      ∙ (λ j. meaning (func_with f (sym (append_assoc before (po ∷ mid) (new ∷ after)) j)) inputs)
      ∙ in_place (Here front after) (co ∷ []) (new ∷ []) f inputs same_there
      ∙ (λ j. meaning (func_with f (sym split j)) inputs)

pub pair_keeps : PairKeepsMeaning
pair_keeps f before mid after po co p c k m ds w inputs typed = pair_keeps_here f before mid after po co p c k m ds w inputs typed
