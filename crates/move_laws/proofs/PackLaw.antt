-- The generic over packed operands, unpacked, is the generic.
use Rattle.std.proofs.Common.{◌≡◌, ℕ, zero, suc, ◌+◌, ◌-◌, ◌*◌, ◌/◌, ◌%◌, ◌<◌, ◌≤◌, ◌^◌, true, false, ◌&&◌, List, [], ◌∷◌, ◌++◌, map, filter, length, get_or, Option, Some, None, ◌⊎◌, inl, inr, ⊎_elim, refl, ap, sym, ◌∙◌, subst, arith, add-mul}
use Rattle.std.specs.Prelude.{option_map, option_and_then, if◌then◌else◌, ⊤}
use Rattle.std.proofs.Math.Nat.{mul-le-mul_right}
use Rattle.std.proofs.lemmas.Bool.{true≢false, cases_Bool, cases_lt, lt-ltb}
use Rattle.std.proofs.lemmas.List.Folds.{fold-map}
use Rattle.std.proofs.lemmas.Nat.{div-mul-add, div-add-mod'}
use Rattle.std.proofs.lemmas.Option.{none-some, same_Some}
use Rattle.affine_maps.specs.Map.{dimension}
use Rattle.payload_ops.specs.Combine.{joined}
use Rattle.payload_laws.specs.Combiners.{value_after}
use Rattle.mlir_base.specs.Types.{bits_of}
use Rattle.payload_ops.specs.Shape.{PayloadShape}
use Rattle.payload_ops.specs.Values.{Given, payload_value}
use Rattle.payload_ops.specs.declared.step.PayloadStep.{PayloadStep}
use Rattle.payload_laws.proofs.Combiners.{joins_term}
use Rattle.payload_laws.proofs.Joined.{joined_below}
use Rattle.payload_laws.proofs.KnownValues.{keeps_output}
use Rattle.payload_laws.proofs.Traps.{never_traps}
use Rattle.mlir_meaning.specs.declared.values.Grid.{Grid}
use Rattle.mlir_meaning.specs.declared.values.Datum.TheVariants.{Cells}
use Rattle.mlir_meaning.specs.Grids.{points, at, settled, is_inside, same_point, InBox, Each}
use Rattle.mlir_meaning.specs.Moves.{outer_point, inner_point, unpack_of}
use Rattle.mlir_meaning.specs.Points.{has, select_map}
use Rattle.mlir_meaning.specs.States.{grid_of}
use Rattle.mlir_meaning.specs.Structured.{fold_points, operand_extent, generic_step, generic_element, generic_result, elements}
use Rattle.mlir_meaning.proofs.Grids.{each_more, each_point, settled_same, settled_some, inside_true, inside_in}
use Rattle.mlir_meaning.proofs.Settled.{HasCells, HasTrap, view}
use Rattle.point_laws.specs.Tiles.{tile_count}
use Rattle.region_laws.specs.Operands.{IsThere, ReadsAxes, IsTyped, maps_of, Operand, maps_in, olds, news}
use Rattle.point_laws.specs.Boxes.{picks}
use Rattle.point_laws.specs.Folds.{then_step, CannotTrap}
use Rattle.region_laws.proofs.Extents.{typed_by}
use Rattle.region_laws.proofs.Inner.{generic_is}
use Rattle.point_laws.proofs.Lists.{each-filter, each-passes, each-and}
use Rattle.point_laws.proofs.Folds.{fold_any_order}
use Rattle.point_laws.proofs.Stated.{combiners_swap}
use Rattle.move_laws.specs.Packs.{outers, inners, outer_box, inner_box, packed_box, merged, cut_axes, cut_sizes, packed_before, inner_axes, packed_dims, packed_map, packed_maps, AxesPack, Packs, IsPointFree, zeros_of, OutputPacked, PackAbsorbs, output_tiles, unpacked}
use Rattle.point_laws.proofs.Inside.{fold_inside, never_none}
use Rattle.move_laws.proofs.Merged.{merged_back, outers_in, inners_in, in_append, Split, outer_length, outer_is, inner_is}
use Rattle.point_laws.proofs.Tables.{box_length, picked_below}
use Rattle.move_laws.proofs.PackedAxes.{merged_still, merged_cut, inner_below, outer_still, outer_cut, CutAt, cut_at, new_length, reads_outer, reads_inner, reads_append}
use Rattle.move_laws.proofs.PackedOperands.{PackedGrid, packed_grid, packed_same, agree_all, zeros_agree, all_old, all_new, there_outer, there_inners}
use Rattle.move_laws.proofs.PackedPoints.{dims_plain, dims_stay, dims_read, dims_axes, front, back, whole, split, joined_again, index, hits, new_hits, is_whole, kept, Hit, hit_of, permuted, in_order}
use Rattle.move_laws.proofs.PointFree.{point_free}
use Rattle.point_laws.specs.Folds.{AgreesInside}

-- ONE COORDINATE
past_at : (es p : List ℕ) → length p ≡ length es → is_inside es p ≡ false → (d : ℕ) × (d < length es) × (get_or es d 0 ≤ get_or p d 0)
past_at [] [] l h = absurd (true≢false h)
past_at (e ∷ es) (i ∷ p) l h =
    ⊎_elim (λ m. let r = past_at es p (omega arith) ((λ j. sym (lt-ltb i e m) j && is_inside es p) ∙ h) in (suc r.0, omega (arith, r.1), r.2))
    (λ m. (0, omega arith, omega (arith, m))) (cases_lt i e)
past_at [] (i ∷ p) l h = absurd (omega arith)
past_at (e ∷ es) [] l h = absurd (omega arith)

-- a size that divides
whole_tiles : (e t : ℕ) → e % suc t ≡ 0 → tile_count e (suc t) * suc t ≡ e
whole_tiles e t h =
    let q : e / suc t * suc t ≡ e = omega (arith, div-add-mod' e (suc t), h) in
    let n : tile_count e (suc t) ≡ e / suc t = (λ j. (sym q j + (suc t - 1)) / suc t) ∙ div-mul-add (e / suc t) (suc t) (suc t - 1) (omega arith) in
    (λ j. n j * suc t) ∙ q

below_scaled : (x n t i : ℕ) → x < n → i < suc t → x * suc t + i < n * suc t
below_scaled x n t i l m = omega (arith, mul-le-mul_right {m = x + 1} {n = n} (suc t) (omega arith), add-mul x 1 (suc t))

sizes_length : (es ts : List ℕ) → length ts ≡ length es → length (inner_box es ts) ≡ length (cut_sizes ts)
sizes_length [] [] l = refl
sizes_length (e ∷ es) (zero ∷ ts) l = sizes_length es ts (omega arith)
sizes_length (e ∷ es) (suc t ∷ ts) l = ap suc (sizes_length es ts (omega arith))
sizes_length [] (t ∷ ts) l = absurd (omega arith)
sizes_length (e ∷ es) [] l = absurd (omega arith)

merged_length : (o is ts : List ℕ) → length (merged o is ts) ≡ length o
merged_length [] is ts = refl
merged_length (x ∷ o) is [] = ap suc (merged_length o is [])
merged_length (x ∷ o) is (zero ∷ ts) = ap suc (merged_length o is ts)
merged_length (x ∷ o) [] (suc t ∷ ts) = ap suc (merged_length o [] ts)
merged_length (x ∷ o) (i ∷ is) (suc t ∷ ts) = ap suc (merged_length o is ts)

in_get : (es p : List ℕ) (d : ℕ) → InBox es p → d < length es → get_or p d 0 < get_or es d 0
in_get [] p d h l = absurd (omega arith)
in_get (e ∷ es) [] d h l = absurd h
in_get (e ∷ es) (i ∷ p) zero h l = h.0
in_get (e ∷ es) (i ∷ p) (suc d) h l = in_get es p d h.1 (omega arith)

dims_extents : (box ds xs : List ℕ) → ReadsAxes box (map dimension ds) xs → xs ≡ picks ds box
dims_extents box [] [] h = refl
dims_extents box (d ∷ ds) (x ∷ xs) h = λ j. (h.0).1 j ∷ dims_extents box ds xs h.1 j
dims_extents box [] (x ∷ xs) h = absurd h
dims_extents box (d ∷ ds) [] h = absurd h

dims_below : (box ds xs : List ℕ) → ReadsAxes box (map dimension ds) xs → Each (λ d. d < length box) ds
dims_below box [] xs h = tt
dims_below box (d ∷ ds) (x ∷ xs) h = ((h.0).0, dims_below box ds xs h.1)
dims_below box (d ∷ ds) [] h = absurd h

-- the new operation's map of the output
pub packed_output : (box ts ds : List ℕ) → length ts ≡ length box → packed_map ts (select_map (length box) ds) ≡ select_map (length (packed_box box ts)) (packed_dims ts ds)
packed_output box ts ds long =
    let n : length ts + length (cut_sizes ts) ≡ length (packed_box box ts) = omega (arith, new_length box ts long, sizes_length box ts long) in
    λ j. record { dims = n j; results = sym (dims_axes (length ts) ts ds) j }

module _ (box ts : List ℕ) (os : List Operand) (ds : List ℕ) (width : ℕ) (g g' : Grid) (P : Packs box ts os ds width g g') (captured : List ℕ) (payload : PayloadShape)
    (free : Each (λ (s : PayloadStep). IsPointFree s.op) payload.steps) where
  abbrev nb : List ℕ
  nb = packed_box box ts

  abbrev ids : List ℕ
  ids = packed_dims ts ds

  abbrev at_sizes : List ℕ
  at_sizes = output_tiles ts ds

  abbrev old_step : ℕ → List ℕ → Option ℕ
  old_step = generic_step (maps_of (maps_in os) box ds) (olds os) captured payload

  abbrev new_step : ℕ → List ℕ → Option ℕ
  new_step = generic_step (maps_of (packed_maps ts os) nb ids) (news os) captured payload

  -- THE OUTPUT
  out_axes : AxesPack box ts (select_map (length box) ds) (Cells width g)
  out_axes = (dims_plain (length box) ds P.selects, dims_stay ts ds, subst (ReadsAxes box (map dimension ds)) (sym P.extents) (dims_read box ds P.selects))

  out_length : length (map dimension ds) ≡ length g.extents
  out_length = sym (len ds) ∙ ap length (sym P.extents)
    where
      len : (ds : List ℕ) → length (picks ds box) ≡ length (map dimension ds)
      len [] = refl
      len (d ∷ ds) = ap suc (len ds)

  out_grid : PackedGrid at_sizes width g (Cells width g')
  out_grid = packed_grid ts (select_map (length box) ds) width g (Cells width g') out_length P.output

  out_is : g' ≡ out_grid.grid
  out_is = ap grid_of out_grid.is

  pub out_extents : g'.extents ≡ packed_box g.extents at_sizes
  out_extents = (λ j. (out_is j).extents) ∙ out_grid.extents

  -- the output reads the new box
  out_reads : ReadsAxes nb (map dimension ids) (packed_box g.extents at_sizes)
  out_reads =
      subst (λ es. ReadsAxes nb es (packed_box g.extents at_sizes)) (sym (dims_axes (length ts) ts ds))
      (reads_append nb (map dimension ds) (inner_axes (length ts) ts (map dimension ds)) (outer_box g.extents at_sizes) (inner_box g.extents at_sizes)
      (reads_outer box ts P.long (map dimension ds) g.extents out_axes.0 out_axes.1 out_axes.2) (reads_inner box ts P.long (map dimension ds) g.extents out_axes.0 out_axes.2))

  abbrev pos_of : List ℕ → List ℕ
  pos_of e = outers e at_sizes ++ inners e at_sizes

  out_in : (e : List ℕ) → InBox g.extents e → InBox g'.extents (pos_of e)
  out_in e b = subst (λ es. InBox es (pos_of e)) (sym out_extents) (in_append (outer_box g.extents at_sizes) (inner_box g.extents at_sizes) (outers e at_sizes) (inners e at_sizes) (outers_in g.extents e at_sizes b) (inners_in g.extents e at_sizes b))

  out_at : (e : List ℕ) → InBox g.extents e → at g' (pos_of e) ≡ at g e
  out_at e b =
      (λ j. at (out_is j) (pos_of e)) ∙ out_grid.reads (outers e at_sizes) (inners e at_sizes) (outers_in g.extents e at_sizes b) (inners_in g.extents e at_sizes b)
      ∙ (λ j. if is_inside g.extents (merged_back e at_sizes j) then at g (merged_back e at_sizes j) else 0)
      ∙ (λ j. if inside_true g.extents e b j then at g e else 0)

  -- TYPES
  old_typed : IsTyped box (maps_in os) ds (olds os) width g
  old_typed = typed_by box (maps_in os) ds (olds os) width g (record { inputs = all_old box ts P.long os P.inputs; selects = P.selects; extents = P.extents; alone = P.alone })

  alone_new : (d : ℕ) → d < length nb → IsThere (operand_extent d (packed_maps ts os ++ packed_map ts (select_map (length box) ds) ∷ []) (news os ++ Cells width g' ∷ []))
  alone_new d l =
      ⊎_elim (λ m. there_outer box ts P.long d os (select_map (length box) ds) (Cells width g) (Cells width g') P.inputs out_axes P.output (P.alone d m))
      (λ m.
      let k : ℕ = d - length ts in
      let c : CutAt box ts k = cut_at box ts k (omega (arith, m, l, new_length box ts P.long, P.long)) in
      let e : length ts + packed_before ts c.d ≡ d = omega (arith, c.at, m, P.long) in
      subst (λ n. IsThere (operand_extent n (packed_maps ts os ++ packed_map ts (select_map (length box) ds) ∷ []) (news os ++ Cells width g' ∷ []))) e
      (there_inners box ts P.long c.d c.size c.cut os (select_map (length box) ds) (Cells width g) (Cells width g') P.inputs out_axes P.output (P.alone c.d c.is)))
      (cases_lt d (length box))

  new_typed : IsTyped nb (packed_maps ts os) ids (news os) width g'
  new_typed = typed_by nb (packed_maps ts os) ids (news os) width g' (record {
    inputs = all_new box ts P.long os P.inputs;
    selects = dims_below nb ids (packed_box g.extents at_sizes) out_reads;
    extents = out_extents ∙ dims_extents nb ids (packed_box g.extents at_sizes) out_reads;
    alone = λ d l. subst (λ m. IsThere (operand_extent d (packed_maps ts os ++ m ∷ []) (news os ++ Cells width g' ∷ []))) (packed_output box ts ds P.long) (alone_new d l);
  })

  -- STEPS
  abbrev whole_of : List ℕ → List ℕ
  whole_of = whole box ts P.long ds P.selects

  abbrev front_of : List ℕ → List ℕ
  front_of = front box ts P.long ds P.selects

  abbrev back_of : List ℕ → List ℕ
  back_of = back box ts P.long ds P.selects

  same_step : (p : List ℕ) → InBox nb p → InBox box (whole_of p) → (a : ℕ) → new_step a p ≡ old_step a (whole_of p)
  same_step p b w a =
      let s : Split (outer_box box ts) (inner_box box ts) p = split box ts P.long ds P.selects p b in
      (λ j. payload_value payload (record { point = p; outer = captured; ins = elements (news os) (maps_of (packed_maps ts os) nb ids) (sym (joined_again box ts P.long ds P.selects p) j); out = a }))
      ∙ (λ j. payload_value payload (record {
        point = p;
        outer = captured;
        ins = agree_all box ts P.long (front_of p) (back_of p) s.front s.back os (select_map (length box) ds) (select_map (length nb) ids) P.inputs w j;
        out = a;
      }))
      ∙ point_free payload p (whole_of p) captured (elements (olds os) (maps_of (maps_in os) box ds) (whole_of p)) a free

  -- ONE ELEMENT
  module _ (e : List ℕ) (i : InBox g.extents e) where
    there : InBox (picks ds box) e
    there = subst (λ es. InBox es e) P.extents i

    abbrev Hits : List ℕ → Type 0
    Hits p = Hit box ts P.long ds P.selects e there p

    -- where a point lies past the end, it does so in a dimension that isn't the output's, and whose size doesn't divide
    record Past (p : List ℕ) : Type 0 where
      d : ℕ
      is : d < length box
      past : get_or box d 0 ≤ get_or (whole_of p) d 0
      other : has ds d ≡ false
      cut : get_or ts d 0 ≡ 0 → ⊥
      ragged : get_or box d 0 % get_or ts d 0 ≡ 0 → ⊥

    past_of : (p : List ℕ) → Hits p → is_inside box (whole_of p) ≡ false → Past p
    past_of p h f =
        let s : Split (outer_box box ts) (inner_box box ts) p = split box ts P.long ds P.selects p h.inside in
        let long : length (whole_of p) ≡ length box = merged_length (front_of p) (back_of p) ts ∙ box_length (outer_box box ts) (front_of p) s.front ∙ outer_length box ts in
        let r = past_at box (whole_of p) long f in
        let o_in : get_or (front_of p) r.0 0 < get_or (outer_box box ts) r.0 0 = in_get (outer_box box ts) (front_of p) r.0 s.front (omega (arith, r.1, outer_length box ts)) in
        record {
          d = r.0;
          is = r.1;
          past = r.2;
          other = ⊎_elim (λ t. absurd (omega (arith, picked_below ds box (whole_of p) r.0 (subst (InBox (picks ds box)) (sym h.writes) there) t, r.2))) (λ x. x) (cases_Bool (has ds r.0));
          cut = λ z. absurd (omega (arith, r.2, merged_still (front_of p) (back_of p) ts r.0 z, outer_still box ts r.0 z, o_in));
          ragged = λ z. divides p s r.0 r.1 r.2 o_in (get_or ts r.0 0) refl z;
        }
      where
        divides : (p : List ℕ) → Split (outer_box box ts) (inner_box box ts) p → (d : ℕ) → d < length box → get_or box d 0 ≤ get_or (whole_of p) d 0 → get_or (front_of p) d 0 < get_or (outer_box box ts) d 0 →
            (t : ℕ) → get_or ts d 0 ≡ t → get_or box d 0 % t ≡ 0 → ⊥
        divides p s d l past o_in zero z m = omega (arith, past, merged_still (front_of p) (back_of p) ts d z, outer_still box ts d z, o_in)
        divides p s d l past o_in (suc t) z m =
            omega (
              arith,
              past,
              merged_cut box (front_of p) (back_of p) ts d t s.front s.back l z,
              whole_tiles (get_or box d 0) t m,
              below_scaled (get_or (front_of p) d 0) (tile_count (get_or box d 0) (suc t)) t (get_or (back_of p) (packed_before ts d) 0) (omega (arith, o_in, outer_cut box ts d t l z)) (inner_below box (back_of p) ts d t s.back l z),
            )

    abbrev whole_step : ℕ → List ℕ → Option ℕ
    whole_step a p = old_step a (whole_of p)

    abbrev olds_of : List (List ℕ)
    olds_of = hits box ts P.long ds P.selects e there

    abbrev news_of : List (List ℕ)
    news_of = new_hits box ts P.long ds P.selects e there

    abbrev kept_of : List (List ℕ)
    kept_of = kept box ts P.long ds P.selects e there

    meets_outputs : OutputPacked box ts ds → (p : List ℕ) → Hits p → AgreesInside (λ _. ⊤) whole_step new_step (is_whole box ts P.long ds P.selects e there) p
    meets_outputs o p h = (
      (λ t a _. (same_step p h.inside (inside_in box (whole_of p) t) a, λ b _. tt)),
      (λ f a _. let w : Past p = past_of p h f in absurd (true≢false (sym (o w.d w.is w.cut) ∙ w.other))),
    )

    meets_absorbs : CannotTrap payload → PackAbsorbs box ts os ds payload g → (p : List ℕ) → Hits p →
        AgreesInside (λ a. a < 2 ^ bits_of payload.out) whole_step new_step (is_whole box ts P.long ds P.selects e there) p
    meets_absorbs c o p h = (
      (λ t a _. (same_step p h.inside (inside_in box (whole_of p) t) a, λ v k. joins a v k)),
      (λ f a l.
          let w : Past p = past_of p h f in
          let s : Split (outer_box box ts) (inner_box box ts) p = split box ts P.long ds P.selects p h.inside in
          (λ j. payload_value payload (record { point = p; outer = captured; ins = elements (news os) (maps_of (packed_maps ts os) nb ids) (sym (joined_again box ts P.long ds P.selects p) j); out = a }))
          ∙ keeps_output payload (zeros_of w.d os) c.is c.never (o.neutral w.d w.is w.other w.cut w.ragged)
          (record { point = p; outer = captured; ins = elements (news os) (maps_of (packed_maps ts os) nb ids) (front_of p ++ back_of p); out = a })
          (zeros_agree box ts P.long (front_of p) (back_of p) s.front s.back os (select_map (length nb) ids) w.d P.inputs w.past) l),
    )
      where
        joined_lt : (o' : Option ℕ) (a v : ℕ) → option_map (joined o.combines.combiner (bits_of payload.out) a) o' ≡ Some v → v < 2 ^ bits_of payload.out
        joined_lt None a v k = absurd (none-some v k)
        joined_lt (Some t) a v k = subst (λ n. n < 2 ^ bits_of payload.out) (same_Some _ v k) (joined_below o.combines.combiner (bits_of payload.out) a t)

        joins : (a v : ℕ) → old_step a (whole_of p) ≡ Some v → v < 2 ^ bits_of payload.out
        joins a v k =
            let given : Given = record { point = whole_of p; outer = captured; ins = elements (olds os) (maps_of (maps_in os) box ds) (whole_of p); out = a } in
            joined_lt (value_after payload given o.combines.term) a v (sym (joins_term payload o.combines.combiner o.combines.term o.combines.is o.combines.found given) ∙ k)

    folded : (In : ℕ → Type 0) → ((p : List ℕ) → Hits p → AgreesInside In whole_step new_step (is_whole box ts P.long ds P.selects e there) p) → (a : ℕ) → In a → fold_points new_step news_of a ≡ fold_points old_step kept_of a
    folded In meets a k =
        fold_inside In whole_step new_step (is_whole box ts P.long ds P.selects e there) news_of
        (each_more (λ p. InBox nb p × (same_point (picks ids p) (index box ts P.long ds P.selects e) ≡ true)) (AgreesInside In whole_step new_step (is_whole box ts P.long ds P.selects e there))
        (λ p h. meets p (hit_of box ts P.long ds P.selects e there p h.0 h.1)) news_of
        (each-and (InBox nb) (λ p. same_point (picks ids p) (index box ts P.long ds P.selects e) ≡ true) news_of
        (each-filter (InBox nb) (λ p. same_point (picks ids p) (index box ts P.long ds P.selects e)) (points nb) (each_point nb)) (each-passes (λ p. same_point (picks ids p) (index box ts P.long ds P.selects e)) (points nb)))) a k
        ∙ sym (fold-map (λ o p. option_and_then (λ b. old_step b p) o) whole_of (Some a) (filter (is_whole box ts P.long ds P.selects e there) news_of))

    pub cell_packed : CannotTrap payload → OutputPacked box ts ds ⊎ PackAbsorbs box ts os ds payload g →
        generic_element (picks ids) new_step nb g' (pos_of e) ≡ generic_element (picks ds) old_step box g e
    cell_packed c (inl o) =
        folded (λ _. ⊤) (λ p h. meets_outputs o p h) (at g' (pos_of e)) tt
        ∙ (λ j. fold_points old_step (in_order box ts P.long ds P.selects e there o j) (out_at e i j))
    cell_packed c (inr o) =
        folded (λ a. a < 2 ^ bits_of payload.out) (λ p h. meets_absorbs c o p h) (at g' (pos_of e)) (subst (λ a. a < 2 ^ bits_of payload.out) (sym (out_at e i)) (o.below e i))
        ∙ ap (fold_points old_step kept_of) (out_at e i)
        ∙ fold_any_order (then_step old_step) (combiners_swap (maps_of (maps_in os) box ds) (olds os) captured payload o.combines) olds_of kept_of (permuted box ts P.long ds P.selects e there) (Some (at g e))

  -- THE WHOLE
  abbrev new_cells : List ℕ → Option ℕ
  new_cells = generic_element (picks ids) new_step nb g'

  abbrev old_cells : List ℕ → Option ℕ
  old_cells = generic_element (picks ds) old_step box g

  new_is : generic_result (maps_of (packed_maps ts os) nb ids) (length nb) (news os) (Cells width g') captured payload ≡ option_map (Cells width) (settled g'.extents new_cells)
  new_is = generic_is nb (packed_maps ts os) ids (news os) width captured payload g' new_typed

  sizes_long : length at_sizes ≡ length g.extents
  sizes_long = len ds ∙ ap length (sym P.extents)
    where
      len : (ds : List ℕ) → length (output_tiles ts ds) ≡ length (picks ds box)
      len [] = refl
      len (d ∷ ds) = ap suc (len ds)

  pub pack_kept : CannotTrap payload → OutputPacked box ts ds ⊎ PackAbsorbs box ts os ds payload g →
      option_map (unpacked g.extents at_sizes width) (generic_result (maps_of (packed_maps ts os) nb ids) (length nb) (news os) (Cells width g') captured payload)
      ≡ generic_result (maps_of (maps_in os) box ds) (length box) (olds os) (Cells width g) captured payload
  unfolding unpack_of
  pack_kept c o =
      ap (option_map (unpacked g.extents at_sizes width)) new_is
      ∙ ⊎_elim
      (λ (s : HasCells g'.extents new_cells).
      let r : Grid = record { extents = g'.extents; cells = s.cells } in
      ap (λ x. option_map (unpacked g.extents at_sizes width) (option_map (Cells width) x)) s.settles
      ∙ ap (option_map (Cells width)) (sym (settled_some g.extents old_cells (λ e. at r (outer_point (cut_axes at_sizes) (cut_sizes at_sizes) e ++ inner_point (cut_axes at_sizes) (cut_sizes at_sizes) e))
      (λ e i. let l : length at_sizes ≡ length e = sizes_long ∙ sym (box_length g.extents e i) in
      sym (cell_packed e i c o) ∙ s.reads (pos_of e) (out_in e i) ∙ (λ j. Some (at r (sym (outer_is e at_sizes l) j ++ sym (inner_is e at_sizes l) j)))))))
      (λ (s : HasTrap g'.extents new_cells). absurd (never_none new_step (λ a p. never_traps payload c.is c.never (record { point = p; outer = captured; ins = elements (news os) (maps_of (packed_maps ts os) nb ids) p; out = a }))
      (filter (λ p. same_point (picks ids p) s.point) (points nb)) (at g' s.point) s.missing))
      (view g'.extents new_cells)
      ∙ sym (generic_is box (maps_in os) ds (olds os) width captured payload g old_typed)

  -- where no axis of the output is packed
  pub inputs_pack_kept : CannotTrap payload → OutputPacked box ts ds ⊎ PackAbsorbs box ts os ds payload g → cut_sizes at_sizes ≡ [] →
      generic_result (maps_of (packed_maps ts os) nb ids) (length nb) (news os) (Cells width g') captured payload
      ≡ generic_result (maps_of (maps_in os) box ds) (length box) (olds os) (Cells width g) captured payload
  inputs_pack_kept c o none =
      new_is ∙ ap (option_map (Cells width)) ((λ j. settled ((out_extents ∙ packed_same g.extents at_sizes none) j) new_cells)
      ∙ settled_same g.extents new_cells old_cells (λ e i. ap new_cells (sym (at_itself e at_sizes none)) ∙ cell_packed e i c o))
      ∙ sym (generic_is box (maps_in os) ds (olds os) width captured payload g old_typed)
    where
      at_itself : (e ts : List ℕ) → cut_sizes ts ≡ [] → outers e ts ++ inners e ts ≡ e
      at_itself [] ts h = refl
      at_itself (x ∷ e) [] h = ap (λ l. x ∷ l) (at_itself e [] refl)
      at_itself (x ∷ e) (zero ∷ ts) h = ap (λ l. x ∷ l) (at_itself e ts h)
      at_itself (x ∷ e) (suc t ∷ ts) h = let l : suc (length (cut_sizes ts)) ≡ 0 = ap length h in absurd (omega (arith, l))
