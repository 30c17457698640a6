-- Reads, the payload lane by lane and the write compute the generic; with reductions, the masked reduction does.
use Rattle.std.proofs.Common.{◌≡◌, ℕ, zero, suc, ◌+◌, ◌<◌, ◌≤◌, ◌^◌, Bool, true, false, List, [], ◌∷◌, ◌++◌, map, filter, fold, length, take, drop, get_or, Option, Some, None, inl, ⊎_elim, refl, ap, sym, ◌∙◌, subst, arith}
use Rattle.std.specs.Prelude.{option_map, option_and_then, if◌then◌else◌, slice_get, find}
use Rattle.std.specs.Option.{option_map_or}
use Rattle.std.proofs.lemmas.List.{length-map, get_or_append_left, take-append-drop}
use Rattle.std.proofs.lemmas.Option.{same_Some}
use Rattle.affine_maps.specs.Shape.{MapShape}
use Rattle.payload_ops.specs.Combine.{joined}
use Rattle.payload_laws.specs.Combiners.{neutral_of, combining, value_after}
use Rattle.payload_ops.specs.Payload.{IsPayload}
use Rattle.mlir_base.specs.Types.{bits_of}
use Rattle.payload_ops.specs.Shape.{PayloadShape}
use Rattle.payload_ops.specs.Values.{Given, arg_value, steps_values, payload_value}
use Rattle.payload_ops.specs.declared.kinds.Combiner.{Combiner}
use Rattle.payload_ops.specs.declared.step.Arg.{Arg}
use Rattle.payload_ops.specs.declared.step.Arg.TheVariants.{Input, Out, Step}
use Rattle.payload_ops.specs.declared.step.PayloadStep.{PayloadStep}
use Rattle.payload_laws.proofs.Combiners.{joins_term, term_apart}
use Rattle.payload_laws.proofs.Fitted.{steps_values-append, values_begin}
use Rattle.payload_laws.proofs.Joined.{joined_neutral, joined_below}
use Rattle.mlir_meaning.specs.declared.values.Grid.{Grid}
use Rattle.mlir_meaning.specs.declared.values.Datum.{Datum}
use Rattle.mlir_meaning.specs.declared.values.Datum.TheVariants.{Number, Bits, Cells}
use Rattle.mlir_meaning.specs.Grids.{points, at, tabulate, is_inside, same_point, count_up, InBox, IsFull, Each}
use Rattle.mlir_meaning.specs.Points.{map_point, select_map, kept}
use Rattle.mlir_meaning.specs.States.{element}
use Rattle.mlir_meaning.specs.Structured.{fold_points, generic_step, generic_element, generic_result, elements}
use Rattle.mlir_meaning.specs.Vectors.{reduction_of, write_of, writes, source_axes}
use Rattle.mlir_meaning.proofs.Cells.{same_point-true, same_point-refl}
use Rattle.mlir_meaning.proofs.Grids.{at-tabulate, tabulate_full, tabulated, settled_some, each_more, each_point, inside_true, inside_in}
use Rattle.region_laws.specs.Operands.{IsTyped, maps_of}
use Rattle.point_laws.specs.Boxes.{picks, Grows}
use Rattle.region_laws.proofs.Inner.{generic_is}
use Rattle.point_laws.proofs.Lists.{filter-same, both_ways}
use Rattle.region_laws.proofs.Outputs.{selected_is, picks_in}
use Rattle.lane_laws.specs.Lanes.{IsOnce, transfer_map, lane_of, lane_arg, lane_steps, IsHere, AreOnLanes, IsLanePayload, AreVectors, lane_given, lane_picks, AreAmong, LaneInput, lane_maps, lane_olds, lane_vectors, Selects, ReadVector, IsInputVector, AreInputVectors, WriteBack, IsChosen}
use Rattle.point_laws.proofs.Inside.{grow_in, grow_length, element_inside}
use Rattle.lane_laws.proofs.LanePicks.{picks_of_picks, all_once, all_among, all_picks, all_whole, kept_picks, at-read, read_extents, lane_back, lane_in_box, lane_in, at-write}
use Rattle.lane_laws.proofs.LaneSteps.{same_value, same_after, LaneRun, all_run}
use Rattle.point_laws.proofs.Tables.{box_length}
use Rattle.point_laws.proofs.Members.{IsIn, filter_in, filter_from}
use Rattle.point_laws.proofs.Sorted.{sorted_same, filter_sorted, points_sorted, point_in, point_inside}
use Rattle.point_laws.specs.Folds.{AgreesInside}

-- WRITTEN TABLES
written_table : (vs dims ds : List ℕ) (g v w : Grid) → WriteBack vs dims ds g v w → tabulate g.extents (at w) ≡ w
unfolding write_of
written_table vs dims ds g v w r = subst (λ x. tabulate g.extents (at x) ≡ x) (sym r.is) (tabulated (write_of v r.offsets r.mask (transfer_map dims ds) g) (full r.offsets r.mask))
  where
    full : (offsets : List ℕ) (mask : Option Datum) → IsFull (write_of v offsets mask (transfer_map dims ds) g)
    full offsets mask = tabulate_full g.extents (λ e. option_map_or (at v) (find (writes (source_axes (transfer_map dims ds)) (length g.extents) offsets mask e) (points v.extents)) (at g e))

-- INPUTS
module _ (box vs : List ℕ) (grows : Grows box vs) where
  whole_lanes : picks (count_up 0 (length box)) vs ≡ vs
  whole_lanes = all_whole (length box) vs (grow_length box vs grows)

  -- a tensor that is read, at a lane of the box
  read_inside : (rs : List ℕ) (g v : Grid) → Selects box rs g → ReadVector vs (count_up 0 (length box)) rs g v → (p : List ℕ) → InBox box p → at v p ≡ at g (picks rs p)
  read_inside rs g v s r p b =
      let inside : InBox g.extents (picks rs p) = subst (λ es. InBox es (picks rs p)) (sym s.extents) (picks_in box p rs s.below b) in
      at-read vs (count_up 0 (length box)) rs g v p s.once (all_among (length box) rs s.below) (ap length s.extents ∙ length-map rs (λ d. get_or box d 0)) r (subst (λ es. InBox es p) (sym whole_lanes) (grow_in box vs p grows b))
      ∙ ap (lane_of g) (all_picks (length box) rs p s.below) ∙ (λ j. if inside_true g.extents (picks rs p) inside j then at g (picks rs p) else 0)

  input_is : (rs : List ℕ) (x v : Datum) → IsInputVector box vs rs x v → (p : List ℕ) → InBox box p → element v p ≡ element x (map_point (select_map (length box) rs) p)
  input_is rs (Cells width g) v h p b = ap (λ d. element d p) h.2 ∙ read_inside rs g h.1 h.0 h.3 p b ∙ ap (at g) (sym (selected_is (length box) rs p))
  input_is rs (Bits n) v h p b = ap (λ d. element d p) h.1 ∙ at-tabulate vs p (λ q. n) (grow_in box vs p grows b)
  input_is rs (Number n) v h p b = absurd h

  inputs_are : (os : List LaneInput) (N : ℕ → Bool) (a : ℕ) → AreInputVectors box vs N a os → (m : MapShape) (p : List ℕ) → InBox box p → (k : ℕ) → N (a + k) ≡ true →
      get_or (map (λ v. element v p) (lane_vectors os)) k 0 ≡ get_or (elements (lane_olds os) (lane_maps (length box) os ++ m ∷ []) p) k 0
  inputs_are [] N a h m p b k t = refl
  inputs_are (i ∷ os) N a h m p b zero t = let z : a + 0 ≡ a = omega arith in input_is i.dims i.old i.vector (h.0 (ap N (sym z) ∙ t)) p b
  inputs_are (i ∷ os) N a h m p b (suc k) t = let z : suc a + k ≡ a + suc k = omega arith in inputs_are os N (suc a) h.1 m p b k (ap N z ∙ t)

-- TERMS
-- the steps before the one that joins, lane by lane, give the term
pub record TermRun (lanes : List ℕ) (payload : PayloadShape) (ins : List Datum) (y : ℕ) (t : Arg) : Type 0 where
  pub all : List Datum
  pub runs : lane_steps ins (Bits 0) lanes (take y payload.steps) [] ≡ Some all
  pub gives : (p : List ℕ) → InBox lanes p → value_after payload (lane_given ins (Bits 0) p) t ≡ Some (element (lane_arg ins (Bits 0) all t) p)

module _ (lanes : List ℕ) (payload : PayloadShape) (N : ℕ → Bool) (ins : List Datum) (typed : AreVectors N false payload ins (Bits 0)) (y : ℕ) (t : Arg) (le : y ≤ length payload.steps)
    (on : AreOnLanes N false (length payload.ins) 0 (take y payload.steps)) (here : IsHere N false (length payload.ins) y t) (never : (g : Given) → payload_value payload g ≡ None → ⊥) where
  split_steps : (g : Given) → steps_values payload g payload.steps [] ≡ option_and_then (steps_values payload g (drop y payload.steps)) (steps_values payload g (take y payload.steps) [])
  split_steps g = (λ j. steps_values payload g (sym (take-append-drop y payload.steps) j) []) ∙ steps_values-append payload g (take y payload.steps) (drop y payload.steps) []

  taken : (xs : List PayloadStep) (n j : ℕ) → j < length (take n xs) → slice_get xs j ≡ slice_get (take n xs) j
  taken [] zero j l = refl
  taken [] (suc n) j l = refl
  taken (x ∷ xs) zero j l = absurd (omega arith)
  taken (x ∷ xs) (suc n) zero l = refl
  taken (x ∷ xs) (suc n) (suc j) l = taken xs n j (omega arith)

  take_length : (xs : List PayloadStep) (n : ℕ) → n ≤ length xs → length (take n xs) ≡ n
  take_length xs zero l = refl
  take_length [] (suc n) l = absurd (omega arith)
  take_length (x ∷ xs) (suc n) l = ap suc (take_length xs n (omega arith))

  run_of : LaneRun lanes payload N false ins (Bits 0) typed (take y payload.steps) []
  run_of = all_run lanes payload N false ins (Bits 0) typed (take y payload.steps) [] (λ k l. absurd (omega arith))
      (λ j l. let e : 0 + j ≡ j = omega arith in (λ k. slice_get payload.steps (e k)) ∙ taken payload.steps y j l) on
      (λ p b e. never (lane_given ins (Bits 0) p) (ap (option_map (λ done. arg_value (lane_given ins (Bits 0) p) done payload.yielded)) (split_steps (lane_given ins (Bits 0) p) ∙ ap (option_and_then (steps_values payload (lane_given ins (Bits 0) p) (drop y payload.steps))) e)))

  get_vector : (p : List ℕ) (xs : List Datum) (k : ℕ) → get_or (map (λ v. element v p) xs) k 0 ≡ element (get_or xs k (Bits 0)) p
  get_vector p [] k = refl
  get_vector p (x ∷ xs) zero = refl
  get_vector p (x ∷ xs) (suc k) = get_vector p xs k

  arg_of : (p all more : List ℕ) (vectors : List Datum) (t : Arg) → IsHere N false (length payload.ins) y t → all ≡ map (λ v. element v p) vectors → length all ≡ y →
      arg_value (lane_given ins (Bits 0) p) (all ++ more) t ≡ element (lane_arg ins (Bits 0) vectors t) p
  arg_of p all more vectors (Input k) h e l = get_vector p ins k
  arg_of p all more vectors Out h e l = refl
  arg_of p all more vectors (Step k) h e l = get_or_append_left all more 0 k (omega (arith, h, l)) ∙ (λ j. get_or (e j) k 0) ∙ get_vector p vectors k

  pub term_run : TermRun lanes payload ins y t
  term_run = record {
    all = run_of.all;
    runs = run_of.runs;
    gives = λ p b.
        let g : Given = lane_given ins (Bits 0) p in
        let vals : List ℕ = map (λ v. element v p) run_of.all in
        let begun = values_begin payload g (take y payload.steps) [] vals (run_of.values p b) in
        let size : length vals ≡ y = ap length begun.1 ∙ begun.2 ∙ take_length payload.steps y le in
        ap (option_map (λ done. arg_value g done t)) (split_steps g ∙ ap (option_and_then (steps_values payload g (drop y payload.steps))) (run_of.values p b))
        ∙ rest g vals p (steps_values payload g (drop y payload.steps) vals) refl size
        (λ e. never g (ap (option_map (λ done. arg_value g done payload.yielded)) (split_steps g ∙ ap (option_and_then (steps_values payload g (drop y payload.steps))) (run_of.values p b) ∙ e)));
  } where
    rest : (g : Given) (vals p : List ℕ) (r : Option (List ℕ)) → steps_values payload (lane_given ins (Bits 0) p) (drop y payload.steps) (map (λ v. element v p) run_of.all) ≡ r → length (map (λ v. element v p) run_of.all) ≡ y → (r ≡ None → ⊥) →
        option_map (λ done. arg_value (lane_given ins (Bits 0) p) done t) r ≡ Some (element (lane_arg ins (Bits 0) run_of.all t) p)
    rest g vals p None e size never = absurd (never refl)
    rest g vals p (Some full) e size never =
        let begun = values_begin payload (lane_given ins (Bits 0) p) (drop y payload.steps) (map (λ v. element v p) run_of.all) full e in
        ap (λ v. Some v) ((λ j. arg_value (lane_given ins (Bits 0) p) (begun.1 j) t) ∙ arg_of p (map (λ v. element v p) run_of.all) begun.0 run_of.all t here refl size)

module _ (box vs : List ℕ) (grows : Grows box vs) (os : List LaneInput) (ds : List ℕ) (width : ℕ) (g : Grid) (out : Selects box ds g) (captured : List ℕ) (payload : PayloadShape)
    (typed : IsTyped box (lane_maps (length box) os) ds (lane_olds os) width g) (N : ℕ → Bool) (vectors : AreInputVectors box vs N 0 os) where
  abbrev old_step : ℕ → List ℕ → Option ℕ
  old_step = generic_step (maps_of (lane_maps (length box) os) box ds) (lane_olds os) captured payload

  abbrev all_dims : List ℕ
  all_dims = count_up 0 (length box)

  abbrev given_at : List ℕ → ℕ → Given
  given_at p a = record { point = p; outer = captured; ins = elements (lane_olds os) (maps_of (lane_maps (length box) os) box ds) p; out = a }

  all_below : Each (λ d. d < length box) all_dims
  all_below = go 0 (length box) (omega arith)
    where
      go : (a n : ℕ) → a + n ≤ length box → Each (λ d. d < length box) (count_up a n)
      go a zero l = tt
      go a (suc n) l = (omega arith, go (a + 1) n (omega arith))

  -- PARALLEL DIMENSIONS ALONE
  module _ (o : Bool) (vector : Datum) (reads_out : o ≡ true → (x : Grid) × (vector ≡ Cells width x) × ReadVector vs all_dims ds g x) (among : AreAmong ds all_dims) where
    one_hit : (e : List ℕ) → InBox (picks ds box) e → filter (λ p. same_point (picks ds p) e) (points box) ≡ lane_picks ds all_dims e ∷ []
    one_hit e b =
        let q : List ℕ = lane_picks ds all_dims e in
        let inside : InBox box q = subst (λ es. InBox es q) (all_whole (length box) box refl) (lane_in_box box vs grows all_dims ds out.once (all_once (length box)) (all_among (length box) ds out.below) among all_below e b) in
        let back : picks ds q ≡ e = sym (all_picks (length box) ds q out.below) ∙ lane_back box vs grows all_dims ds out.once (all_once (length box)) (all_among (length box) ds out.below) among all_below e b in
        sorted_same (filter (λ p. same_point (picks ds p) e) (points box)) (q ∷ []) (filter_sorted (λ p. same_point (picks ds p) e) (points box) (points_sorted box)) (tt, tt)
        (λ p i. let h = filter_from (λ p. same_point (picks ds p) e) p (points box) i in
        inl (sym (all_whole (length box) p (box_length box p (point_inside box p h.0))) ∙ sym (picks_of_picks ds all_dims p among) ∙ ap (lane_picks ds all_dims) (same_point-true (picks ds p) e h.1)))
        (λ p i. ⊎_elim (λ z. subst (λ x. IsIn x (filter (λ p. same_point (picks ds p) e) (points box))) (sym z)
        (filter_in (λ p. same_point (picks ds p) e) q (points box) (point_in box q inside) (ap (λ x. same_point x e) back ∙ same_point-refl e))) (λ k. absurd k) i)

    pub lanes_mean : IsLanePayload N o payload → (v w : Grid) → v.extents ≡ vs →
        ((p : List ℕ) → InBox vs p → payload_value payload (lane_given (lane_vectors os) vector p) ≡ Some (at v p)) → WriteBack vs all_dims ds g v w →
        generic_result (maps_of (lane_maps (length box) os) box ds) (length box) (lane_olds os) (Cells width g) captured payload ≡ Some (Cells width w)
    lanes_mean is v w wide gives r =
        generic_is box (lane_maps (length box) os) ds (lane_olds os) width captured payload g typed
        ∙ ap (option_map (Cells width)) (settled_some g.extents (generic_element (picks ds) old_step box g) (at w)
        (λ e i.
        let b : InBox (picks ds box) e = subst (λ es. InBox es e) out.extents i in
        let q : List ℕ = lane_picks ds all_dims e in
        let inside : InBox box q = subst (λ es. InBox es q) (all_whole (length box) box refl) (lane_in_box box vs grows all_dims ds out.once (all_once (length box)) (all_among (length box) ds out.below) among all_below e b) in
        let back : picks ds q ≡ e = sym (all_picks (length box) ds q out.below) ∙ lane_back box vs grows all_dims ds out.once (all_once (length box)) (all_among (length box) ds out.below) among all_below e b in
        ap (λ ps. fold_points old_step ps (at g e)) (one_hit e b)
        ∙ sym (same_value payload N o (lane_given (lane_vectors os) vector q) (given_at q (at g e)) is
        (λ k t l. inputs_are box vs grows os N 0 vectors (select_map (length box) ds) q inside k ((let z : 0 + k ≡ k = omega arith in ap N z) ∙ t))
        (λ t. let x = reads_out t in ap (λ d. element d q) x.1 ∙ read_inside box vs grows ds g x.0 out x.2 q inside ∙ ap (at g) back))
        ∙ gives q (grow_in box vs q grows inside)
        ∙ ap (λ n. Some n) (sym (at-write box vs grows all_dims ds out.once (all_once (length box)) (all_among (length box) ds out.below) among all_below g v w out.extents
        (wide ∙ sym (whole_lanes box vs grows)) r e i))))
        ∙ ap (λ x. Some (Cells width x)) (written_table vs all_dims ds g v w r)

  -- the term's vector has at a lane of the box what the payload's term is there
  pub terms_are : (y : ℕ) (t : Arg) → IsLanePayload N true payload → IsHere N true (length payload.ins) (length payload.steps) t → (T : Grid) →
      ((p : List ℕ) → InBox vs p → value_after payload (lane_given (lane_vectors os) (Bits 0) p) t ≡ Some (at T p)) → (p : List ℕ) → InBox box p → value_after payload (given_at p 0) t ≡ Some (at T p)
  terms_are y t is here T gives p b =
      sym (same_after payload N true (lane_given (lane_vectors os) (Bits 0) p) (given_at p 0) is.steps t here
      (λ k t l. inputs_are box vs grows os N 0 vectors (select_map (length box) ds) p b k ((let z : 0 + k ≡ k = omega arith in ap N z) ∙ t)) (λ _. refl))
      ∙ gives p (grow_in box vs p grows b)

  -- REDUCTIONS
  module _ (reds : List ℕ) (c : Combiner) (t : Arg) (is : IsPayload payload) (found : combining payload.steps payload.yielded ≡ Some (c, t)) where
    abbrev par : List ℕ
    par = kept reds 0 all_dims

    abbrev bits : ℕ
    bits = bits_of payload.out

    fold_some : (f : ℕ → List ℕ → ℕ) (ps : List (List ℕ)) (a : ℕ) → fold_points (λ a p. Some (f a p)) ps a ≡ Some (fold f a ps)
    fold_some f [] a = refl
    fold_some f (p ∷ ps) a = fold_some f ps (f a p)

    -- the parallel dimensions are the output's
    module _ (once : IsOnce par) (among : AreAmong par ds) (among' : AreAmong ds par) (below : Each (λ d. d < length box) par) where
      same_test : (e p : List ℕ) → InBox (picks ds box) e → InBox vs p → same_point (kept reds 0 p) (lane_picks ds par e) ≡ same_point (picks ds p) e
      same_test e p b i =
          let k : kept reds 0 p ≡ picks par p = kept_picks (length box) reds p (box_length vs p i ∙ grow_length box vs grows) in
          both_ways (same_point (kept reds 0 p) (lane_picks ds par e)) (same_point (picks ds p) e)
          (λ h. ap (λ x. same_point x e) (sym (picks_of_picks par ds p among) ∙ ap (lane_picks par ds) (sym k ∙ same_point-true (kept reds 0 p) (lane_picks ds par e) h)
          ∙ lane_back box vs grows par ds out.once once among among' below e b) ∙ same_point-refl e)
          (λ h. ap (λ x. same_point x (lane_picks ds par e)) (k ∙ sym (picks_of_picks ds par p among') ∙ ap (lane_picks ds par) (same_point-true (picks ds p) e h)) ∙ same_point-refl (lane_picks ds par e))

      -- the term, chosen where the lane lies in the box, joins as the payload does
      meets : (T S : Grid) → IsChosen box vs (neutral_of c bits) T S → ((p : List ℕ) → InBox box p → value_after payload (given_at p 0) t ≡ Some (at T p)) → (p : List ℕ) → InBox vs p →
          AgreesInside (λ a. a < 2 ^ bits) old_step (λ a p. Some (joined c bits a (at S p))) (is_inside box) p
      meets T S chosen terms p i = (
        (λ h a l.
            let b : InBox box p = inside_in box p h in
            let s : at S p ≡ at T p = chosen.reads p i ∙ (λ j. if h j then at T p else neutral_of c bits) in
            let step : old_step a p ≡ Some (joined c bits a (at T p)) =
            joins_term payload c t is found (given_at p a) ∙ ap (option_map (joined c bits a)) (term_apart payload c t is found (given_at p 0) a ∙ terms p b) in
            (ap (λ v. Some (joined c bits a v)) s ∙ sym step, λ v k. subst (λ n. n < 2 ^ bits) (same_Some _ v (sym step ∙ k)) (joined_below c bits a (at T p)))),
        (λ h a l. (λ j. Some (joined c bits a ((chosen.reads p i ∙ (λ k. if h k then at T p else neutral_of c bits)) j))) ∙ ap (λ v. Some v) (joined_neutral c bits a l).1),
      )

      pub reduction_means : (T S A w : Grid) → IsChosen box vs (neutral_of c bits) T S → ((p : List ℕ) → InBox box p → value_after payload (given_at p 0) t ≡ Some (at T p)) →
          ReadVector vs par ds g A → ((e : List ℕ) → InBox g.extents e → at g e < 2 ^ bits) → WriteBack vs par ds g (reduction_of c bits S A reds) w →
          generic_result (maps_of (lane_maps (length box) os) box ds) (length box) (lane_olds os) (Cells width g) captured payload ≡ Some (Cells width w)
      unfolding reduction_of
      reduction_means T S A w chosen terms acc small r =
          generic_is box (lane_maps (length box) os) ds (lane_olds os) width captured payload g typed
          ∙ ap (option_map (Cells width)) (settled_some g.extents (generic_element (picks ds) old_step box g) (at w)
          (λ e i.
          let b : InBox (picks ds box) e = subst (λ es. InBox es e) out.extents i in
          let q : List ℕ = lane_picks ds par e in
          let q_in : InBox (picks par vs) q = lane_in box vs grows par ds out.once once among among' below e b in
          let wide : A.extents ≡ picks par vs = read_extents vs par ds g A acc in
          let start : at A q ≡ at g e =
          at-read vs par ds g A q out.once among (ap length out.extents ∙ length-map ds (λ d. get_or box d 0)) acc q_in ∙ ap (lane_of g) (lane_back box vs grows par ds out.once once among among' below e b)
          ∙ (λ j. if inside_true g.extents e i j then at g e else 0) in
          let join : ℕ → List ℕ → ℕ = λ a p. joined c bits a (at S p) in
          let lanes : List (List ℕ) = filter (λ p. same_point (kept reds 0 p) q) (points vs) in
          let reduced : at (reduction_of c bits S A reds) q ≡ fold join (at g e) (filter (λ p. same_point (picks ds p) e) (points vs)) =
          at-tabulate A.extents q (λ e. fold join (at A e) (filter (λ p. same_point (kept reds 0 p) e) (points S.extents))) (subst (λ es. InBox es q) (sym wide) q_in)
          ∙ (λ j. fold join (start j) (filter (λ p. same_point (kept reds 0 p) q) (points (chosen.extents j))))
          ∙ ap (fold join (at g e)) (filter-same (λ p. same_point (kept reds 0 p) q) (λ p. same_point (picks ds p) e) (points vs)
          (each_more (InBox vs) (λ p. same_point (kept reds 0 p) q ≡ same_point (picks ds p) e) (λ p i. same_test e p b i) (points vs) (each_point vs))) in
          sym (element_inside (λ a. a < 2 ^ bits) old_step (λ a p. Some (join a p)) (picks ds) box vs e grows (λ p i s. meets T S chosen terms p i) (at g e) (small e i))
          ∙ fold_some join (filter (λ p. same_point (picks ds p) e) (points vs)) (at g e)
          ∙ ap (λ n. Some n) (sym reduced ∙ sym (at-write box vs grows par ds out.once once among among' below g (reduction_of c bits S A reds) w out.extents wide r e i))))
          ∙ ap (λ x. Some (Cells width x)) (written_table vs par ds g (reduction_of c bits S A reds) w r)
