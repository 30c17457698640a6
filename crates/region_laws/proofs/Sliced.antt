-- A slice of the whole is the tile, where the region has all points that write into the slice.
use Rattle.std.proofs.Common.{◌≡◌, ℕ, Bool, true, false, ◌&&◌, List, map, length, Option, Some, None, ⊎_elim, refl, ap, sym, ◌∙◌}
use Rattle.std.specs.Prelude.{option_map}
use Rattle.std.proofs.lemmas.Option.{none-some, same_Some}
use Rattle.mlir_meaning.specs.declared.values.Grid.{Grid}
use Rattle.mlir_meaning.specs.Grids.{points, at, plus, lies_in, same_point, all_some, settled, InBox}
use Rattle.mlir_meaning.specs.States.{grid_of}
use Rattle.mlir_meaning.specs.declared.values.Datum.TheVariants.{Cells}
use Rattle.mlir_meaning.specs.Moves.{slice_of}
use Rattle.mlir_meaning.specs.Structured.{fold_points, generic_element, generic_result}
use Rattle.mlir_meaning.proofs.Cells.{same_point-true}
use Rattle.mlir_meaning.proofs.Grids.{each_point, each_more, settled_some}
use Rattle.mlir_meaning.proofs.Regions.{MovedIn, moved_in}
use Rattle.mlir_meaning.proofs.Settled.{HasCells, HasTrap, view}
use Rattle.region_laws.specs.Laws.{SliceOfWholeIsTile, SliceOfResultIsTile}
use Rattle.region_laws.specs.Instances.{step_of}
use Rattle.region_laws.specs.Operands.{maps_of, IsTyped}
use Rattle.region_laws.proofs.Inner.{generic_is}
use Rattle.point_laws.specs.Boxes.{picks}
use Rattle.region_laws.specs.Regions.{tile, Window}
use Rattle.point_laws.proofs.Lists.{filter-same}
use Rattle.region_laws.proofs.Outputs.{picks_window, picks_lies}
use Rattle.region_laws.proofs.Steps.{grid, tile_cell, inside_is}

only_there : (s l : Bool) → (s ≡ true → l ≡ true) → (s && l) ≡ s
only_there true l h = h refl
only_there false l h = refl

module _ (out inner : List ℕ → List ℕ) (step : ℕ → List ℕ → Option ℕ) (box es os ns oo on : List ℕ) (w : Window out inner box es os ns oo on)
    (all : (p : List ℕ) → InBox box p → lies_in oo on (out p) ≡ lies_in os ns p) where
  pub slice_is_tile : (cs ts : List ℕ) → settled es (generic_element out step box (grid es cs)) ≡ Some (grid es ts) → tile inner step os ns oo on (grid es cs) ≡ Some (slice_of (grid es ts) oo on)
  unfolding slice_of
  slice_is_tile cs ts whole =
      let g : Grid = grid es cs in
      settled_some on (tile_cell out inner step box es os ns oo on w g) (λ p. at (grid es ts) (plus p oo))
      (λ p b.
      let e : List ℕ = plus p oo in
      let m : MovedIn es oo on p = moved_in es oo on p w.out_fits b in
      ap (tile_cell out inner step box es os ns oo on w g) (sym m.back)
      ∙ inside_is out inner step box es os ns oo on w g e m.inside m.lies
      ∙ ap (λ ps. fold_points step ps (at g e))
      (filter-same (λ x. same_point (out x) e && lies_in os ns x) (λ x. same_point (out x) e) (points box)
      (each_more (InBox box) (λ x. (same_point (out x) e && lies_in os ns x) ≡ same_point (out x) e)
      (λ x c. only_there (same_point (out x) e) (lies_in os ns x) (λ s. sym (all x c) ∙ ap (lies_in oo on) (same_point-true (out x) e s) ∙ m.lies)) (points box) (each_point box)))
      ∙ element_is g e m.inside)
    where
      element_is : (g : Grid) (e : List ℕ) → InBox es e → generic_element out step box (grid es cs) e ≡ Some (at (grid es ts) e)
      element_is g e b =
          ⊎_elim (λ (c : HasCells es (generic_element out step box (grid es cs))). c.reads e b ∙ ap (λ (x : Grid). Some (at x e)) (same_Some (grid es c.cells) (grid es ts) (sym c.settles ∙ whole)))
          (λ (t : HasTrap es (generic_element out step box (grid es cs))). absurd (none-some (grid es ts) (sym t.traps ∙ whole)))
          (view es (generic_element out step box (grid es cs)))

-- what is settled has the extents asked for
settled_extents : (es : List ℕ) (h : List ℕ → Option ℕ) (x : Grid) → settled es h ≡ Some x → x.extents ≡ es
settled_extents es h x e = by (all_some (map h (points es))) e where
  by : (o : Option (List ℕ)) → option_map (λ cells. record { extents = es; cells = cells }) o ≡ Some x → x.extents ≡ es
  by None k = absurd (none-some x k)
  by (Some cells) k = ap (λ (g : Grid). g.extents) (sym (same_Some (record { extents = es; cells = cells }) x k))

pub slice_of_whole : SliceOfWholeIsTile
slice_of_whole step cut box os ns c ds inside names cs ts whole =
    slice_is_tile (picks ds) (picks ds) step box (picks ds box) os ns (picks ds os) (picks ds ns) (picks_window box ds inside os ns c.fits) (λ p b. picks_lies cut box os ns c ds inside names p b) cs ts whole

pub slice_of_result : SliceOfResultIsTile
slice_of_result g typed cut os ns c cuts r whole =
    by g.out typed whole typed.extents (settled g.out.extents (generic_element (picks g.ds) (step_of g) g.box g.out)) refl
  where
    by : (out : Grid) → IsTyped g.box g.maps g.ds g.ins g.width out → generic_result (maps_of g.maps g.box g.ds) (length g.box) g.ins (Cells g.width out) g.captured g.payload ≡ Some (Cells g.width r) → out.extents ≡ picks g.ds g.box →
        (o : Option Grid) → settled out.extents (generic_element (picks g.ds) (step_of g) g.box out) ≡ o → tile (picks g.ds) (step_of g) os ns (picks g.ds os) (picks g.ds ns) out ≡ Some (slice_of r (picks g.ds os) (picks g.ds ns))
    by out typed whole same None e = absurd (none-some (Cells g.width r) (sym (ap (option_map (Cells g.width)) e) ∙ sym (generic_is g.box g.maps g.ds g.ins g.width g.captured g.payload out typed) ∙ whole))
    by out typed whole same (Some x) e =
        let is : x ≡ r = ap grid_of (same_Some (Cells g.width x) (Cells g.width r) (sym (ap (option_map (Cells g.width)) e) ∙ sym (generic_is g.box g.maps g.ds g.ins g.width g.captured g.payload out typed) ∙ whole)) in
        let shaped : (h : Grid) → settled (picks g.ds g.box) (generic_element (picks g.ds) (step_of g) g.box h) ≡ Some x → h.extents ≡ picks g.ds g.box → x.extents ≡ picks g.ds g.box → tile (picks g.ds) (step_of g) os ns (picks g.ds os) (picks g.ds ns) h ≡ Some (slice_of x (picks g.ds os) (picks g.ds ns)) =
        λ h w k l. slice_from h x w k l in
        shaped out (ap (λ es. settled es (generic_element (picks g.ds) (step_of g) g.box out)) (sym same) ∙ e) same (settled_extents out.extents (generic_element (picks g.ds) (step_of g) g.box out) x e ∙ same)
        ∙ ap (λ y. Some (slice_of y (picks g.ds os) (picks g.ds ns))) is
      where
        slice_from : (h x : Grid) → settled (picks g.ds g.box) (generic_element (picks g.ds) (step_of g) g.box h) ≡ Some x → h.extents ≡ picks g.ds g.box → x.extents ≡ picks g.ds g.box →
            tile (picks g.ds) (step_of g) os ns (picks g.ds os) (picks g.ds ns) h ≡ Some (slice_of x (picks g.ds os) (picks g.ds ns))
        slice_from h x w k l =
            (λ j. tile (picks g.ds) (step_of g) os ns (picks g.ds os) (picks g.ds ns) (record { extents = k j; cells = h.cells }))
            ∙ slice_of_whole (step_of g) cut g.box os ns c g.ds typed.selects cuts h.cells x.cells
            ((λ j. settled (picks g.ds g.box) (generic_element (picks g.ds) (step_of g) g.box (record { extents = sym k j; cells = h.cells }))) ∙ w ∙ (λ j. Some (record { extents = l j; cells = x.cells })))
            ∙ (λ j. Some (slice_of (record { extents = sym l j; cells = x.cells }) (picks g.ds os) (picks g.ds ns)))
