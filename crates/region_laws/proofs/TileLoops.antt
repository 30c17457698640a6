-- The nest of `scf.for` over the tiles of a generic, and the `scf.forall`, mean what the generic means.
use Rattle.std.proofs.Common.{◌≡◌, ℕ, ◌<◌, Bool, false, List, [], ◌∷◌, map, length, fold, get_or, Option, Some, None, ◌⊎◌, ⊎_elim, refl, ap, sym, ◌∙◌, subst, arith}
use Rattle.std.specs.Prelude.{option_map, option_and_then}
use Rattle.std.proofs.lemmas.Bool.{or_parts}
use Rattle.affine_maps.specs.Map.{dimension}
use Rattle.affine_maps.specs.Shape.{MapShape}
use Rattle.payload_ops.specs.Shape.{PayloadShape}
use Rattle.mlir_ir.specs.declared.tree.Op.{Op}
use Rattle.mlir_ir.specs.declared.tree.Ty.{Ty}
use Rattle.mlir_ir.specs.declared.tree.ValueId.{ValueId}
use Rattle.mlir_ir.specs.declared.tree.Idx.{Idx}
use Rattle.mlir_meaning.specs.Grids.{points, at, plus, lies_in, all_some, InBox, IsFull, Each}
use Rattle.mlir_meaning.specs.Loops.{ForallHead}
use Rattle.mlir_meaning.specs.Meaning.{kind_meaning, run}
use Rattle.mlir_meaning.specs.Moves.{insert_into}
use Rattle.mlir_meaning.specs.States.{State, made}
use Rattle.mlir_meaning.specs.Structured.{generic_step, generic_result, elements}
use Rattle.mlir_meaning.specs.declared.values.Grid.{Grid}
use Rattle.mlir_meaning.specs.declared.values.Datum.{Datum}
use Rattle.mlir_meaning.specs.declared.values.Datum.TheVariants.{Cells}
use Rattle.mlir_meaning.proofs.Bodies.{meaning-forall, forall_kind}
use Rattle.mlir_meaning.proofs.Grids.{each_point, each_more}
use Rattle.point_laws.specs.Folds.{Combines}
use Rattle.point_laws.specs.Tiles.{tile_box, cut_dims, tile_offsets, tile_sizes, is_cut}
use Rattle.region_laws.specs.Regions.{cell, in_turn, Windows, AddsRegions}
use Rattle.region_laws.specs.Operands.{names_cut, is_sliced, CutsOutput, maps_of, IsTyped}
use Rattle.point_laws.specs.Boxes.{picks}
use Rattle.region_laws.specs.Nests.{Level, ended, TileLoop}
use Rattle.region_laws.specs.TileLoops.{nest_op, sliced_tile, whole_tile, started_tile, NotesTiles, IsNest}
use Rattle.region_laws.specs.Laws.{TilesAddRegions}
use Rattle.point_laws.proofs.Combiners.{payload_swaps}
use Rattle.point_laws.proofs.Ragged.{tile_fits}
use Rattle.region_laws.proofs.Steps.{grid, one_tile, one_whole}
use Rattle.region_laws.proofs.Tiled.{carried_swaps, carried_apart, started_apart}
use Rattle.point_laws.proofs.Tables.{get_or-plus}
use Rattle.point_laws.proofs.Cuts.{tile_cut}
use Rattle.region_laws.proofs.Outputs.{picks_windows, picks_apart}
use Rattle.region_laws.proofs.Inner.{generic_is}
use Rattle.region_laws.proofs.Nests.{each_tile, nest_is}
use Rattle.region_laws.proofs.Foralls.{forall_is}

-- TILES ADD THEIR REGIONS
pub sliced_adds : (step : ℕ → List ℕ → Option ℕ) (box ts ds : List ℕ) → Each (λ d. d < length box) ds → AddsRegions (picks ds) step box (picks ds box) ts (sliced_tile step box ts ds)
sliced_adds step box ts ds inside q b cs =
    let os : List ℕ = tile_offsets box ts q in
    let ns : List ℕ = tile_sizes box ts q in
    one_tile (picks ds) (picks ds) step box (picks ds box) os ns (picks ds os) (picks ds ns) (picks_windows box ts ds inside q b) cs

pub whole_adds : (step : ℕ → List ℕ → Option ℕ) (box ts ds es : List ℕ) → is_sliced (is_cut ts) (map dimension ds) ≡ false → AddsRegions (picks ds) step box es ts (whole_tile step box ts ds)
whole_adds step box ts ds es unsliced q b cs =
    one_whole (picks ds) (picks ds) step box es (tile_offsets box ts q) (tile_sizes box ts q) (tile_fits box ts q b) (λ p c. unmoved p c ds unsliced) cs
  where
    unmoved : (p : List ℕ) → InBox (tile_sizes box ts q) p → (ds : List ℕ) → is_sliced (is_cut ts) (map dimension ds) ≡ false → picks ds (plus p (tile_offsets box ts q)) ≡ picks ds p
    unmoved p c [] s = refl
    unmoved p c (d ∷ ds) s =
        let both : (names_cut (is_cut ts) (dimension d).terms ≡ false) × (is_sliced (is_cut ts) (map dimension ds) ≡ false) = or_parts (names_cut (is_cut ts) (dimension d).terms) (is_sliced (is_cut ts) (map dimension ds)) s in
        let zero : get_or (tile_offsets box ts q) d 0 ≡ 0 = ((tile_cut box ts q b).still d (or_parts (is_cut ts d) false both.0).0).0 in
        let same : get_or (plus p (tile_offsets box ts q)) d 0 ≡ get_or p d 0 = omega (arith, get_or-plus box (tile_offsets box ts q) (tile_sizes box ts q) p d (tile_fits box ts q b) c) in
        λ j. same j ∷ unmoved p c ds both.1 j

-- TENSORS OF KNOWN EXTENTS, BY THEIR CELLS
module _ {Q : Type 0} (es : List ℕ) (one : Q → Grid → Option Grid) (cells : Q → List ℕ → Option (List ℕ)) where
  abbrev pub ByCells : Q → Type 0
  ByCells q = (cs : List ℕ) → one q (grid es cs) ≡ option_map (grid es) (cells q cs)

  pub in_cells : (qs : List Q) → Each ByCells qs → (o : Option (List ℕ)) →
      fold (λ o q. option_and_then (one q) o) (option_map (grid es) o) qs ≡ option_map (grid es) (fold (λ o q. option_and_then (cells q) o) o qs)
  in_cells [] each o = refl
  in_cells (q ∷ qs) each o = ap (λ x. fold (λ o q. option_and_then (one q) o) x qs) (first o) ∙ in_cells qs each.1 (option_and_then (cells q) o)
    where
      first : (o : Option (List ℕ)) → option_and_then (one q) (option_map (grid es) o) ≡ option_map (grid es) (option_and_then (cells q) o)
      first None = refl
      first (Some cs) = each.0 cs

ended_cells : (width : ℕ) (es : List ℕ) (o : Option (List ℕ)) → ended (Cells width) (option_map (grid es) o) ≡ ended (λ cs. Cells width (grid es cs)) o
ended_cells width es None = refl
ended_cells width es (Some cs) = refl

pub map_cells : (width : ℕ) (es : List ℕ) (o : Option (List ℕ)) → option_map (λ cs. Cells width (grid es cs)) o ≡ option_map (Cells width) (option_map (grid es) o)
map_cells width es None = refl
map_cells width es (Some cs) = refl

-- THE GENERIC
module _ (box ts : List ℕ) (ms : List MapShape) (ds : List ℕ) (ins : List Datum) (width : ℕ) (captured : List ℕ) (payload : PayloadShape) (g : Grid) (typed : IsTyped box ms ds ins width g) (full : IsFull g) where
  abbrev pub step : ℕ → List ℕ → Option ℕ
  step = generic_step (maps_of ms box ds) ins captured payload

  abbrev pub result : Option Datum
  result = generic_result (maps_of ms box ds) (length box) ins (Cells width g) captured payload

  -- tiles in turn, in both ways
  pub tiles_in_turn : (one : List ℕ → Grid → Option Grid) → AddsRegions (picks ds) step box g.extents ts one → CutsOutput (is_cut ts) box ds ⊎ Combines payload →
      option_map (Cells width) (in_turn one (points (tile_box box ts)) g) ≡ result
  tiles_in_turn one adds ways =
      ap (option_map (Cells width))
      (⊎_elim
      (λ cuts. carried_apart (picks ds) step box ts (λ q. picks ds (tile_offsets box ts q)) (λ q. picks ds (tile_sizes box ts q)) (picks_apart box ts ds typed.selects cuts) g.extents one adds g.cells full)
      (λ k. carried_swaps (picks ds) step box ts g.extents one adds
      (payload_swaps payload k.combiner k.term k.is k.found (λ p. record { point = p; outer = captured; ins = elements ins (maps_of ms box ds) p; out = 0 })) g.cells full) ways)
      ∙ sym (generic_is box ms ds ins width captured payload g typed)

  -- THE NEST OF `scf.for`
  module _ (one : List ℕ → Grid → Option Grid) (adds : AddsRegions (picks ds) step box g.extents ts one)
      (lower : ValueId) (ty : Ty) (inner : List Op) (current : ValueId) (l : Level) (ls : List Level) (N : ℕ → Bool) (u : State)
      (n : IsNest N u (cut_dims box ts) lower l ls current width g one inner) where
    abbrev pub SameAsGeneric : Type 0
    SameAsGeneric = kind_meaning (nest_op lower ty l ls inner current).kind ((l.result, ty) ∷ []) u ≡ made ((l.result, ty) ∷ []) u result

    abbrev cells : List ℕ → List ℕ → Option (List ℕ)
    cells q cs = all_some (map (λ e. cell (picks ds) step box (lies_in (tile_offsets box ts q) (tile_sizes box ts q)) e (at (grid g.extents cs) e)) (points g.extents))

    nest_in_turn : kind_meaning (nest_op lower ty l ls inner current).kind ((l.result, ty) ∷ []) u ≡ made ((l.result, ty) ∷ []) u (option_map (Cells width) (in_turn one (points (tile_box box ts)) g))
    nest_in_turn =
        let es : List ℕ = g.extents in
        nest_is (λ cs. Cells width (grid es cs)) lower ty inner (cut_dims box ts) l ls N u current cells n.low n.bounds n.new
        (λ q s cs b knows turn at_arg. n.runs q s cs b knows turn at_arg ∙ ap (ended (Cells width)) (adds q b cs) ∙ ended_cells width es (cells q cs)) g.cells n.start
        ∙ ap (made ((l.result, ty) ∷ []) u)
        (map_cells width es (each_tile (λ cs. Cells width (grid es cs)) (cut_dims box ts) cells (Some g.cells))
        ∙ ap (option_map (Cells width)) (sym (in_cells es one cells (points (tile_box box ts)) (each_more (InBox (tile_box box ts)) (ByCells es one cells) adds (points (tile_box box ts)) (each_point (tile_box box ts))) (Some g.cells))))

    pub tile_for_is : CutsOutput (is_cut ts) box ds ⊎ Combines payload → SameAsGeneric
    tile_for_is ways = nest_in_turn ∙ ap (made ((l.result, ty) ∷ []) u) (tiles_in_turn one adds ways)

  -- THE `scf.forall`
  pub started_result : CutsOutput (is_cut ts) box ds →
      option_map (Cells width) (in_turn (λ q g'. option_map (λ t. insert_into t (picks ds (tile_offsets box ts q)) g') (started_tile step box ts ds g q)) (points (tile_box box ts)) g) ≡ result
  started_result cuts =
      ap (option_map (Cells width))
      (started_apart (picks ds) step box ts (λ q. picks ds (tile_offsets box ts q)) (λ q. picks ds (tile_sizes box ts q)) (picks_apart box ts ds typed.selects cuts) (picks ds) g.extents
      (subst (λ es. Windows (picks ds) (picks ds) box es ts (λ q. picks ds (tile_offsets box ts q)) (λ q. picks ds (tile_sizes box ts q))) (sym typed.extents) (picks_windows box ts ds typed.selects)) g.cells full)
      ∙ sym (generic_is box ms ds ins width captured payload g typed)

  pub tile_forall : (vs : List ValueId) (lower upper stride : List Idx) (arg outs : ValueId) (ty : Ty) (inner : List Op) (rs : List (ValueId × Ty)) (u : State) →
      let h : ForallHead = record { vars = vs; lower = lower; upper = upper; step = stride; shared = (arg, ty, outs) ∷ [] } in
      CutsOutput (is_cut ts) box ds → TileLoop (cut_dims box ts) u h → u.values outs.0 ≡ Cells width g →
      NotesTiles u h (cut_dims box ts) (λ q. picks ds (tile_offsets box ts q)) (started_tile step box ts ds g) inner →
      kind_meaning (forall_kind h inner) rs u ≡ made rs u result
  tile_forall vs lower upper stride arg outs ty inner rs u cuts loop start notes =
      let h : ForallHead = record { vars = vs; lower = lower; upper = upper; step = stride; shared = (arg, ty, outs) ∷ [] } in
      (λ j. meaning-forall h inner j rs u)
      ∙ forall_is (cut_dims box ts) u vs lower upper stride arg outs ty (run inner) rs width g (started_tile step box ts ds g) (λ q. picks ds (tile_offsets box ts q)) loop start notes
      ∙ ap (made rs u) (started_result cuts)

pub tiles_add : TilesAddRegions
tiles_add step box ts ds inside =
    (λ es same. subst (λ xs. AddsRegions (picks ds) step box xs ts (sliced_tile step box ts ds)) (sym same) (sliced_adds step box ts ds inside), λ es unsliced. whole_adds step box ts ds es unsliced)
