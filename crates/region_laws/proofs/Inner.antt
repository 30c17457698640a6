-- The generic on the tiles of its operands.
use Rattle.std.proofs.Common.{◌≡◌, ℕ, Bool, true, false, List, [], ◌∷◌, ◌++◌, map, length, filter, Option, Some, refl, ap, sym, ◌∙◌}
use Rattle.std.specs.Prelude.{option_map, option_and_then, unwrap_or, if◌then◌else◌}
use Rattle.std.proofs.lemmas.List.{map-append}
use Rattle.std.proofs.lemmas.Bool.{or_parts}
use Rattle.affine_maps.specs.Shape.{MapShape}
use Rattle.affine_maps.specs.Map.{dimension}
use Rattle.payload_ops.specs.Shape.{PayloadShape}
use Rattle.payload_ops.specs.Values.{payload_value}
use Rattle.mlir_ir.specs.Count.{first}
use Rattle.mlir_meaning.specs.declared.values.Grid.{Grid}
use Rattle.mlir_meaning.specs.declared.values.Datum.{Datum}
use Rattle.mlir_meaning.specs.declared.values.Datum.TheVariants.{Cells}
use Rattle.mlir_meaning.specs.Grids.{points, count_up, at, plus, same_point, settled, InBox}
use Rattle.mlir_meaning.specs.Moves.{slice_of}
use Rattle.mlir_meaning.specs.Points.{map_point, select_map}
use Rattle.mlir_meaning.specs.States.{grid_of}
use Rattle.mlir_meaning.specs.Structured.{fold_points, axis_extent, operand_extent, generic_box, generic_step, generic_element, generic_result, output_map, elements}
use Rattle.mlir_meaning.proofs.Grids.{each_point, each_more, settled_same}
use Rattle.region_laws.specs.Regions.{moved}
use Rattle.point_laws.specs.Tiles.{Cut}
use Rattle.region_laws.specs.Operands.{names_cut, inner_map, inner_maps, is_sliced, offsets_of, sizes_of, operand_tile, operand_tiles, AreRead, maps_of, IsTyped, IsMoved}
use Rattle.point_laws.specs.Boxes.{picks}
use Rattle.point_laws.proofs.Lists.{filter-same, each-filter, fold-same}
use Rattle.region_laws.proofs.Operands.{elements_are}
use Rattle.region_laws.proofs.Extents.{box_is, tile_box_is}
use Rattle.region_laws.proofs.Outputs.{selected_is, inner_selected, output_sizes}

-- tables of generics that agree on their box
pub generic_same : (o1 o2 : List ℕ → List ℕ) (f1 f2 : ℕ → List ℕ → Option ℕ) (box : List ℕ) (g : Grid) →
    ((p : List ℕ) → InBox box p → o1 p ≡ o2 p) → ((p : List ℕ) → InBox box p → (a : ℕ) → f1 a p ≡ f2 a p) →
    settled g.extents (generic_element o1 f1 box g) ≡ settled g.extents (generic_element o2 f2 box g)
generic_same o1 o2 f1 f2 box g outs steps =
    settled_same g.extents (generic_element o1 f1 box g) (generic_element o2 f2 box g)
    (λ e b.
    ap (λ ps. fold_points f1 ps (at g e))
    (filter-same (λ p. same_point (o1 p) e) (λ p. same_point (o2 p) e) (points box)
    (each_more (InBox box) (λ p. same_point (o1 p) e ≡ same_point (o2 p) e) (λ p c. ap (λ q. same_point q e) (outs p c)) (points box) (each_point box)))
    ∙ fold-same (λ o p. option_and_then (λ a. f1 a p) o) (λ o p. option_and_then (λ a. f2 a p) o) (filter (λ p. same_point (o2 p) e) (points box))
    (each-filter (λ p. (o : Option ℕ) → option_and_then (λ a. f1 a p) o ≡ option_and_then (λ a. f2 a p) o) (λ p. same_point (o2 p) e) (points box)
    (each_more (InBox box) (λ p. (o : Option ℕ) → option_and_then (λ a. f1 a p) o ≡ option_and_then (λ a. f2 a p) o) (λ p c o. λ k. option_and_then (λ a. steps p c a k) o) (points box) (each_point box)))
    (Some (at g e)))

last_is : (box : List ℕ) (ms : List MapShape) (xs : List Datum) (m : MapShape) → AreRead box ms xs → output_map (ms ++ m ∷ []) xs ≡ m
last_is box [] [] m h = refl
last_is box (n ∷ ms) (x ∷ xs) m h = last_is box ms xs m h.1
last_is box [] (x ∷ xs) m h = absurd h
last_is box (n ∷ ms) [] m h = absurd h

tiles_last : (cut : ℕ → Bool) (box os ns : List ℕ) (ms : List MapShape) (xs : List Datum) (m : MapShape) (x : Datum) → AreRead box ms xs →
    operand_tiles cut os ns (ms ++ m ∷ []) (xs ++ x ∷ []) ≡ operand_tiles cut os ns ms xs ++ operand_tile cut os ns m x ∷ []
tiles_last cut box os ns [] [] m x h = refl
tiles_last cut box os ns (n ∷ ms) (y ∷ xs) m x h = ap (λ l. operand_tile cut os ns n y ∷ l) (tiles_last cut box os ns ms xs m x h.1)
tiles_last cut box os ns [] (y ∷ xs) m x h = absurd h
tiles_last cut box os ns (n ∷ ms) [] m x h = absurd h

extent_alike : (d : ℕ) (ms : List MapShape) (xs : List Datum) (y z : Datum) → (grid_of y).extents ≡ (grid_of z).extents → operand_extent d ms (xs ++ y ∷ []) ≡ operand_extent d ms (xs ++ z ∷ [])
extent_alike d [] xs y z e = refl
extent_alike d (m ∷ ms) [] y z e = λ j. first (axis_extent d m.results (e j)) (operand_extent d ms [])
extent_alike d (m ∷ ms) (x ∷ xs) y z e = λ j. first (axis_extent d m.results (grid_of x).extents) (extent_alike d ms xs y z e j)

-- THE GENERIC, WHOLE
module _ (box : List ℕ) (ms : List MapShape) (ds : List ℕ) (ins : List Datum) (width : ℕ) (captured : List ℕ) (payload : PayloadShape) where
  abbrev pub step_of : ℕ → List ℕ → Option ℕ
  step_of = generic_step (maps_of ms box ds) ins captured payload

  pub generic_is : (g : Grid) → IsTyped box ms ds ins width g →
      generic_result (maps_of ms box ds) (length box) ins (Cells width g) captured payload ≡ option_map (Cells width) (settled g.extents (generic_element (picks ds) step_of box g))
  unfolding generic_result
  generic_is g t =
      (λ j. option_map (Cells width) (settled g.extents (generic_element (map_point (last_is box ms ins (select_map (length box) ds) t.read j)) step_of
      (box_is box (maps_of ms box ds) (ins ++ Cells width g ∷ []) t.has_box j) g)))
      ∙ ap (option_map (Cells width)) (generic_same (map_point (select_map (length box) ds)) (picks ds) step_of step_of box g (λ p b. selected_is (length box) ds p) (λ p b a. refl))

  -- ON TILES
  module _ (cut : ℕ → Bool) (os ns : List ℕ) (c : Cut cut box os ns) (captured' : List ℕ) (payload' : PayloadShape) (moves : IsMoved os ns payload captured payload' captured') where
    abbrev pub inner_ms : List MapShape
    inner_ms = maps_of (inner_maps cut ms) box ds

    abbrev pub inner_ins : List Datum
    inner_ins = operand_tiles cut os ns ms ins

    whole_picks : (ds : List ℕ) → is_sliced cut (map dimension ds) ≡ false → picks ds box ≡ picks ds ns
    whole_picks [] s = refl
    whole_picks (d ∷ ds) s =
        let both : (names_cut cut (dimension d).terms ≡ false) × (is_sliced cut (map dimension ds) ≡ false) = or_parts (names_cut cut (dimension d).terms) (is_sliced cut (map dimension ds)) s in
        λ j. sym (c.still d (or_parts (cut d) false both.0).0).1 j ∷ whole_picks ds both.1 j

    -- the output's tile has the output's part of the region
    out_extents : (g : Grid) → IsTyped box ms ds ins width g → (grid_of (operand_tile cut os ns (select_map (length box) ds) (Cells width g))).extents ≡ picks ds ns
    unfolding slice_of
    out_extents g t = by (is_sliced cut (map dimension ds)) refl
      where
        by : (s : Bool) → is_sliced cut (map dimension ds) ≡ s →
            (grid_of (if s then Cells width (slice_of g (offsets_of cut os (map dimension ds)) (sizes_of cut ns (map dimension ds) g.extents)) else Cells width g)).extents ≡ picks ds ns
        by true s = ap (sizes_of cut ns (map dimension ds)) t.extents ∙ output_sizes cut box os ns c ds t.selects
        by false s = t.extents ∙ whole_picks ds s

    inner_box : (g s : Grid) → IsTyped box ms ds ins width g → s.extents ≡ picks ds ns → generic_box inner_ms (length box) (inner_ins ++ Cells width s ∷ []) ≡ ns
    inner_box g s t e =
        let m : MapShape = select_map (length box) ds in
        let same : inner_maps cut (maps_of ms box ds) ≡ inner_ms = map-append (inner_map cut) ms (m ∷ []) ∙ ap (λ x. inner_maps cut ms ++ x ∷ []) (inner_selected cut (length box) ds) in
        (λ j. map (λ d. unwrap_or (extent_alike d inner_ms inner_ins (Cells width s) (operand_tile cut os ns m (Cells width g)) (e ∙ sym (out_extents g t)) j) 0)
        (count_up 0 (length box)))
        ∙ (λ j. generic_box (sym same j) (length box) (sym (tiles_last cut box os ns ms ins m (Cells width g) t.read) j))
        ∙ tile_box_is cut box os ns c (maps_of ms box ds) (ins ++ Cells width g ∷ []) t.has_box

    -- the generic on the tiles is the tile of the generic
    pub inner_is : (g s : Grid) → IsTyped box ms ds ins width g → s.extents ≡ picks ds ns →
        generic_result inner_ms (length box) inner_ins (Cells width s) captured' payload' ≡ option_map (Cells width) (settled s.extents (generic_element (picks ds) (moved step_of os) ns s))
    unfolding generic_result
    inner_is g s t e =
        let m : MapShape = select_map (length box) ds in
        (λ j. option_map (Cells width) (settled s.extents (generic_element (map_point (last_of ms ins t.read j)) (generic_step inner_ms inner_ins captured' payload')
        (inner_box g s t e j) s)))
        ∙ ap (option_map (Cells width))
        (generic_same (map_point m) (picks ds) (generic_step inner_ms inner_ins captured' payload') (moved step_of os) ns s
        (λ p b. selected_is (length box) ds p)
        (λ p b a. ap (λ vs. payload_value payload' (record { point = p; outer = captured'; ins = vs; out = a })) (elements_are cut box os ns c ms ins m m p t.read b)
        ∙ moves p b (elements ins (maps_of ms box ds) (plus p os)) a))
      where
        last_of : (ms : List MapShape) (xs : List Datum) → AreRead box ms xs → output_map (inner_maps cut ms ++ select_map (length box) ds ∷ []) (operand_tiles cut os ns ms xs) ≡ select_map (length box) ds
        last_of [] [] h = refl
        last_of (n ∷ ms) (x ∷ xs) h = last_of ms xs h.1
        last_of [] (x ∷ xs) h = absurd h
        last_of (n ∷ ms) [] h = absurd h
