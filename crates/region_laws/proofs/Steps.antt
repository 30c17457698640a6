-- One tile adds the points of its region, and tiles in turn add those of all.
use Rattle.std.proofs.Common.{◌≡◌, ℕ, ◌+◌, eqb, true, false, ◌&&◌, List, [], ◌∷◌, map, fold, filter, Option, Some, None, ⊎_elim, refl, ap, sym, ◌∙◌, arith}
use Rattle.std.specs.Prelude.{option_and_then, if◌then◌else◌}
use Rattle.std.proofs.lemmas.Bool.{eq-eqb, ne_eqb, false_from_ne_true, cases_eq, cases_Bool, true≢false}
use Rattle.std.proofs.lemmas.List.Folds.{fold-map, fold_stays}
use Rattle.mlir_meaning.specs.declared.values.Grid.{Grid}
use Rattle.mlir_meaning.specs.Grids.{points, at, plus, minus, lies_in, same_point, InBox, Fits, IsFull, Each}
use Rattle.mlir_meaning.specs.Moves.{slice_of}
use Rattle.mlir_meaning.specs.Structured.{fold_points, generic_element}
use Rattle.mlir_meaning.proofs.Cells.{same_point-true}
use Rattle.mlir_meaning.proofs.Grids.{each_point, each_more, tabulated, settled_same, settled_some}
use Rattle.mlir_meaning.proofs.Regions.{moved_in, moved_back, MovedIn, MovedBack, at-slice}
use Rattle.mlir_meaning.proofs.Settled.{HasCells, HasTrap, view, settled_none, placed, inserted_cells, settled_full}
use Rattle.region_laws.specs.Regions.{pointwise, cell, region, moved, tile_step, whole_step, start_step, Window, in_turn}
use Rattle.point_laws.proofs.Lists.{filter-map, filter_none, filter-same, filter-and}
use Rattle.point_laws.proofs.Windows.{points_in_window}
use Rattle.point_laws.proofs.Folds.{fold_from}

abbrev pub grid : List ℕ → List ℕ → Grid
grid es cs = record { extents = es; cells = cs }

-- what is done point by point, in turn
module _ {Q : Type 0} (es : List ℕ) (h : Q → List ℕ → ℕ → Option ℕ) (one : Q → Grid → Option Grid) where
  abbrev pub IsPointwise : Q → Type 0
  IsPointwise q = (cs : List ℕ) → one q (grid es cs) ≡ pointwise (h q) (grid es cs)

  abbrev pub element_in_turn : List Q → List ℕ → ℕ → Option ℕ
  element_in_turn qs e a = fold (λ o q. option_and_then (h q e) o) (Some a) qs

  pub in_turn_is : (qs : List Q) → Each IsPointwise qs → (cs : List ℕ) → IsFull (grid es cs) → in_turn one qs (grid es cs) ≡ pointwise (element_in_turn qs) (grid es cs)
  in_turn_is [] each cs full = sym (settled_some es _ (at (grid es cs)) (λ e b. refl) ∙ ap (λ g. Some g) (tabulated (grid es cs) full))
  in_turn_is (q ∷ qs) each cs full =
      let first : List ℕ → Option ℕ = λ e. h q e (at (grid es cs) e) in
      let whole : List ℕ → Option ℕ = λ e. element_in_turn (q ∷ qs) e (at (grid es cs) e) in
      let later : Grid → Option Grid = in_turn one qs in
      fold_from one qs (one q (grid es cs)) ∙ ap (option_and_then later) (each.0 cs)
      ∙ ⊎_elim
      (λ (c : HasCells es first). ap (option_and_then later) c.settles ∙ in_turn_is qs each.1 c.cells (settled_full es first c.cells c.settles)
      ∙ settled_same es (λ e. element_in_turn qs e (at (grid es c.cells) e)) whole (λ e b. ap (λ o. fold (λ o q. option_and_then (h q e) o) o qs) (sym (c.reads e b))))
      (λ (t : HasTrap es first). ap (option_and_then later) t.traps
      ∙ sym (settled_none es whole t.point t.inside (ap (λ o. fold (λ o q. option_and_then (h q t.point) o) o qs) t.missing ∙ fold_stays (λ o q. option_and_then (h q t.point) o) None (λ q. refl) qs)))
      (view es first)

-- POINTS THAT ARE MOVED
eqb_add : (i j o : ℕ) → eqb (i + o) (j + o) ≡ eqb i j
eqb_add i j o = ⊎_elim (λ e. eq-eqb (i + o) (j + o) (ap (λ k. k + o) e) ∙ sym (eq-eqb i j e)) (λ n. ne_eqb (i + o) (j + o) (λ e. n (omega arith)) ∙ sym (ne_eqb i j n)) (cases_eq i j)

pub same_point_moved : (es os ns p q : List ℕ) → Fits es os ns → InBox ns p → InBox ns q → same_point (plus p os) (plus q os) ≡ same_point p q
same_point_moved [] [] [] [] [] h b c = refl
same_point_moved (e ∷ es) (o ∷ os) (n ∷ ns) (i ∷ p) (j ∷ q) h b c = λ k. eqb_add i j o k && same_point_moved es os ns p q h.1 b.1 c.1 k
same_point_moved [] [] [] (i ∷ p) q h b c = absurd b
same_point_moved [] [] [] [] (j ∷ q) h b c = absurd c
same_point_moved (e ∷ es) (o ∷ os) (n ∷ ns) [] q h b c = absurd b
same_point_moved (e ∷ es) (o ∷ os) (n ∷ ns) (i ∷ p) [] h b c = absurd c
same_point_moved [] (o ∷ os) ns p q h b c = absurd h
same_point_moved [] [] (n ∷ ns) p q h b c = absurd h
same_point_moved (e ∷ es) [] ns p q h b c = absurd h
same_point_moved (e ∷ es) (o ∷ os) [] p q h b c = absurd h

-- ONE TILE
module _ (out inner : List ℕ → List ℕ) (step : ℕ → List ℕ → Option ℕ) (box es os ns oo on : List ℕ) (w : Window out inner box es os ns oo on) where
  abbrev new_points : List ℕ → List (List ℕ)
  new_points e = filter (λ p. same_point (out p) e && lies_in os ns p) (points box)

  new_are : (e : List ℕ) → new_points e ≡ map (λ p. plus p os) (filter (λ p. same_point (out (plus p os)) e) (points ns))
  new_are e =
      filter-and (λ p. same_point (out p) e) (lies_in os ns) (points box) ∙ ap (filter (λ p. same_point (out p) e)) (points_in_window box os ns w.fits)
      ∙ filter-map (λ p. same_point (out p) e) (λ p. plus p os) (points ns)

  -- inside the output's region they are the tile's points, moved
  new_inside : (e : List ℕ) → InBox es e → lies_in oo on e ≡ true → new_points e ≡ map (λ p. plus p os) (filter (λ p. same_point (inner p) (minus e oo)) (points ns))
  new_inside e b t =
      let back : MovedBack oo on e = moved_back es oo on e w.out_fits b t in
      new_are e ∙ ap (map (λ p. plus p os))
      (filter-same (λ p. same_point (out (plus p os)) e) (λ p. same_point (inner p) (minus e oo)) (points ns)
      (each_more (InBox ns) (λ p. same_point (out (plus p os)) e ≡ same_point (inner p) (minus e oo))
      (λ p c. (λ j. same_point (w.moves p c j) (sym back.forth j)) ∙ same_point_moved es oo on (inner p) (minus e oo) w.out_fits (w.within p c) back.inside)
      (points ns) (each_point ns)))

  -- outside there are none
  pub new_outside : (e : List ℕ) → lies_in oo on e ≡ false → new_points e ≡ []
  new_outside e t =
      new_are e ∙ ap (map (λ p. plus p os))
      (filter-same (λ p. same_point (out (plus p os)) e) (λ _. false) (points ns) (each_more (InBox ns) (λ p. same_point (out (plus p os)) e ≡ false)
      (λ p c. false_from_ne_true _ (λ s.
      let m : MovedIn es oo on (inner p) = moved_in es oo on (inner p) w.out_fits (w.within p c) in
      true≢false (sym m.lies ∙ ap (lies_in oo on) (sym (w.moves p c) ∙ same_point-true (out (plus p os)) e s) ∙ t)))
      (points ns) (each_point ns)) ∙ filter_none (points ns))

  -- the cell of a tile that begins from `start`
  abbrev pub tile_cell : Grid → List ℕ → Option ℕ
  tile_cell start = generic_element inner (moved step os) ns (slice_of start oo on)

  pub inside_is : (start : Grid) (e : List ℕ) → InBox es e → lies_in oo on e ≡ true → tile_cell start (minus e oo) ≡ cell out step box (lies_in os ns) e (at start e)
  inside_is start e b t =
      let back : MovedBack oo on e = moved_back es oo on e w.out_fits b t in
      let mine : List (List ℕ) = filter (λ p. same_point (inner p) (minus e oo)) (points ns) in
      ap (fold_points (moved step os) mine) (at-slice start oo on (minus e oo) back.inside ∙ ap (at start) back.forth)
      ∙ sym (fold-map (λ o p. option_and_then (λ x. step x p) o) (λ p. plus p os) (Some (at start e)) mine)
      ∙ ap (λ ps. fold_points step ps (at start e)) (sym (new_inside e b t))

  abbrev pub start_cell : Grid → List ℕ → ℕ → Option ℕ
  start_cell start e a = if lies_in oo on e then cell out step box (lies_in os ns) e (at start e) else Some a

  -- its insertion
  pub start_is : (start : Grid) (cs : List ℕ) → start_step inner step os ns oo on start (grid es cs) ≡ pointwise (start_cell start) (grid es cs)
  unfolding slice_of
  start_is start cs =
      let g : Grid = grid es cs in
      inserted_cells g oo on w.out_fits (tile_cell start)
      ∙ settled_same es (placed g oo on w.out_fits (tile_cell start)) (λ e. start_cell start e (at g e))
      (λ e b. ⊎_elim
      (λ t. (λ j. if t j then tile_cell start (minus e oo) else Some (at g e)) ∙ inside_is start e b t ∙ (λ j. if sym t j then cell out step box (lies_in os ns) e (at start e) else Some (at g e)))
      (λ t. (λ j. if t j then tile_cell start (minus e oo) else Some (at g e)) ∙ (λ j. if sym t j then cell out step box (lies_in os ns) e (at start e) else Some (at g e)))
      (cases_Bool (lies_in oo on e)))

  pub one_tile : (cs : List ℕ) → tile_step inner step os ns oo on (grid es cs) ≡ region out step box (lies_in os ns) (grid es cs)
  one_tile cs =
      let g : Grid = grid es cs in
      start_is g cs
      ∙ settled_same es (λ e. start_cell g e (at g e)) (λ e. cell out step box (lies_in os ns) e (at g e))
      (λ e b. ⊎_elim
      (λ t. λ j. if t j then cell out step box (lies_in os ns) e (at g e) else Some (at g e))
      (λ t. (λ j. if t j then cell out step box (lies_in os ns) e (at g e) else Some (at g e)) ∙ ap (λ ps. fold_points step ps (at g e)) (sym (new_outside e t)))
      (cases_Bool (lies_in oo on e)))

-- A TILE OF WHICH THE OUTPUT ISN'T SLICED
pub one_whole : (out inner : List ℕ → List ℕ) (step : ℕ → List ℕ → Option ℕ) (box es os ns : List ℕ) → Fits box os ns → ((p : List ℕ) → InBox ns p → out (plus p os) ≡ inner p) →
    (cs : List ℕ) → whole_step inner step os ns (grid es cs) ≡ region out step box (lies_in os ns) (grid es cs)
one_whole out inner step box es os ns fits same cs =
    let g : Grid = grid es cs in
    settled_same es (generic_element inner (moved step os) ns g) (λ e. cell out step box (lies_in os ns) e (at g e))
    (λ e b.
    let mine : List (List ℕ) = filter (λ p. same_point (inner p) e) (points ns) in
    sym (fold-map (λ o p. option_and_then (λ x. step x p) o) (λ p. plus p os) (Some (at g e)) mine)
    ∙ ap (λ ps. fold_points step ps (at g e))
    (ap (map (λ p. plus p os))
    (filter-same (λ p. same_point (inner p) e) (λ p. same_point (out (plus p os)) e) (points ns)
    (each_more (InBox ns) (λ p. same_point (inner p) e ≡ same_point (out (plus p os)) e) (λ p c. ap (λ x. same_point x e) (sym (same p c))) (points ns) (each_point ns)))
    ∙ sym (filter-map (λ p. same_point (out p) e) (λ p. plus p os) (points ns))
    ∙ ap (filter (λ p. same_point (out p) e)) (sym (points_in_window box os ns fits))
    ∙ sym (filter-and (λ p. same_point (out p) e) (lies_in os ns) (points box))))
