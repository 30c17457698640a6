-- The innermost body of a tiled generic, whole: slices, the tiled operation, and what becomes of its result.
use Rattle.std.proofs.Common.{◌≡◌, ℕ, Bool, true, false, List, [], ◌∷◌, ◌++◌, length, Option, Some, None, refl, ap, ◌∙◌, append_assoc}
use Rattle.std.specs.Prelude.{option_map}
use Rattle.affine_maps.specs.Shape.{MapShape}
use Rattle.payload_ops.specs.Shape.{PayloadShape}
use Rattle.mlir_ir.specs.declared.tree.Op.{Op}
use Rattle.mlir_ir.specs.declared.tree.OpId.{OpId}
use Rattle.mlir_ir.specs.declared.tree.OpKind.{OpKind, InsertSlice, ParallelInsert}
use Rattle.mlir_ir.specs.declared.tree.Iter.{Iter}
use Rattle.mlir_ir.specs.declared.tree.Ty.{Ty}
use Rattle.mlir_ir.specs.declared.tree.ValueId.{ValueId}
use Rattle.mlir_meaning.specs.Grids.{settled}
use Rattle.mlir_meaning.specs.Loops.{insertions_of, insertion_noted}
use Rattle.mlir_meaning.specs.Meaning.{kind_meaning, run, values_in, places_in}
use Rattle.mlir_meaning.specs.Moves.{slice_of, insert_into}
use Rattle.mlir_meaning.specs.States.{State, made, then_goes, grid_of, width_of}
use Rattle.mlir_meaning.specs.Structured.{generic_result, generic_element, generic_step}
use Rattle.mlir_meaning.specs.declared.values.Grid.{Grid}
use Rattle.mlir_meaning.specs.declared.values.Datum.{Datum}
use Rattle.mlir_meaning.specs.declared.values.Datum.TheVariants.{Cells}
use Rattle.point_laws.specs.Tiles.{Cut}
use Rattle.region_laws.specs.Regions.{moved, tile, tile_step, whole_step}
use Rattle.region_laws.specs.Operands.{inner_maps, operand_tiles, maps_of, IsTyped}
use Rattle.point_laws.specs.Boxes.{picks}
use Rattle.region_laws.specs.Nests.{Knows, ended, noted, yield_of}
use Rattle.region_laws.specs.Among.{then_grid, MakesTile}
use Rattle.region_laws.specs.Laws.{InsertionIsNoted}
use Rattle.region_laws.specs.Bodies.{Builds, after, Slice, slice_op, slice_ops, slice_names, IsBody, IsOutputSlice, MeansTiled}
use Rattle.region_laws.proofs.Inner.{inner_is}
use Rattle.region_laws.proofs.Leaves.{inserts_tile, yields_tile, notes_tile}
use Rattle.region_laws.proofs.Building.{BuildsTiles, builds_tiles, builds_slice}
use Rattle.mlir_meaning.proofs.States.{set_same, set_other, apart, generic_runs, values_kept}

-- a tensor that may be missing, or another one
abbrev or_else : Grid → Option Grid → Grid
or_else x None = x
or_else x (Some g) = g

module _ (box : List ℕ) (ms : List MapShape) (ds : List ℕ) (ins : List Datum) (width : ℕ) (captured : List ℕ) (payload : PayloadShape) (g : Grid) (typed : IsTyped box ms ds ins width g)
    (iterators : List Iter) (rank : length iterators ≡ length box) (cut : ℕ → Bool) (os ns : List ℕ) (region : Cut cut box os ns)
    (M : ℕ → Bool) (t : State) (fs : List (ValueId × Option Slice)) (names : List ValueId) (captured' : List ℕ) (payload' : PayloadShape)
    (b : IsBody M t cut os ns ms ins captured payload fs names captured' payload')
    (kind : ValueId → OpKind) (means : MeansTiled box cut os ns ms ds ins width iterators fs names payload' kind) where
  abbrev step : ℕ → List ℕ → Option ℕ
  step = generic_step (maps_of ms box ds) ins captured payload

  -- the tile of the region
  abbrev one_tile : Grid → Option Grid
  one_tile = tile (picks ds) step os ns (picks ds os) (picks ds ns)

  built : BuildsTiles M t (operand_tiles cut os ns ms ins) fs
  built = builds_tiles M t cut os ns M ms ins fs (λ w h. h) b.slices t (λ v h. refl)

  -- the tiled generic makes the tile
  makes_tile : (u : State) (rs : List (ValueId × Ty)) (o : ValueId) (x : Grid) → values_in u.values (slice_names fs) ≡ operand_tiles cut os ns ms ins → Knows M t u →
      u.values o.0 ≡ Cells width x → x.extents ≡ picks ds ns →
      kind_meaning (kind o) rs u ≡ made rs u (option_map (Cells width) (settled x.extents (generic_element (picks ds) (moved step os) ns x)))
  makes_tile u rs o x tiled knows at_out shape =
      means u rs o x tiled at_out shape
      ∙ generic_runs u rs _ iterators (slice_names fs) o names payload' (operand_tiles cut os ns ms ins) (Cells width x) captured' tiled at_out (b.captures u knows)
      ∙ ap (made rs u)
      ((λ j. generic_result (maps_of (inner_maps cut ms) box ds) (rank j) (operand_tiles cut os ns ms ins) (Cells width x) captured' payload')
      ∙ inner_is box ms ds ins width captured payload cut os ns region captured' payload' b.moves g x typed shape)

  -- behind the output's slice
  record Sliced (arg : ValueId) (x : Grid) (c : Slice) : Type 0 where
    state : State
    runs : (rest : List Op) → run (slice_ops fs ++ (slice_op arg c ∷ rest)) t ≡ run rest state
    knows : Knows M t state
    tiled : values_in state.values (slice_names fs) ≡ operand_tiles cut os ns ms ins
    at_out : state.values c.result.0 ≡ Cells width (slice_of x (picks ds os) (picks ds ns))
    shared : state.shared ≡ t.shared
    inserts : state.inserts ≡ t.inserts

  sliced : (arg : ValueId) (x : Grid) (c : Slice) → M arg.0 ≡ true → t.values arg.0 ≡ Cells width x → IsOutputSlice M t os ns ds fs c → Sliced arg x c
  sliced arg x c there at_arg o =
      let r : BuildsTiles M t (operand_tiles cut os ns ms ins) fs = built in
      let d : Datum = Cells width (slice_of x (picks ds os) (picks ds ns)) in
      let last : Builds M r.state (slice_op arg c ∷ []) (after r.state c.result d) =
      builds_slice M r.state arg c width x (picks ds os) (picks ds ns) o.new (r.builds.knows arg.0 there ∙ at_arg) (o.offsets r.state r.builds.knows) (o.sizes r.state r.builds.knows) in
      record {
        state = after r.state c.result d;
        runs = λ rest. r.builds.runs (slice_op arg c ∷ rest) ∙ last.runs rest;
        knows = λ v h. last.knows v h ∙ r.builds.knows v h;
        tiled = values_kept r.state.values c.result.0 d (slice_names fs) o.other ∙ r.tiled;
        at_out = set_same r.state.values c.result.0 d;
        shared = r.builds.shared;
        inserts = r.builds.inserts;
      }

  knows_after : (u : State) → Knows M t u → (v : ValueId) (d : Datum) → M v.0 ≡ false → Knows M t (after u v d)
  knows_after u k v d new w h = set_other u.values v.0 w d (apart M v.0 w new h) ∙ k w h

  -- THE BODY OF A `scf.for`, where the output is sliced
  pub sliced_body : (arg : ValueId) (x : Grid) (c : Slice) (id id' id'' : OpId) (r z : ValueId) (tr tz : Ty) → M arg.0 ≡ true → t.values arg.0 ≡ Cells width x → IsOutputSlice M t os ns ds fs c → M r.0 ≡ false →
      run (slice_ops fs ++ (slice_op arg c ∷ record { id = id; results = (r, tr) ∷ []; kind = kind c.result }
      ∷ record { id = id'; results = (z, tz) ∷ []; kind = InsertSlice r arg c.offsets c.sizes } ∷ yield_of id'' z ∷ [])) t ≡ ended (Cells width) (tile_step (picks ds) step os ns (picks ds os) (picks ds ns) x)
  unfolding slice_of
  sliced_body arg x c id id' id'' r z tr tz there at_arg o new =
      let s : Sliced arg x c = sliced arg x c there at_arg o in
      s.runs _
      ∙ inserts_tile s.state width (one_tile x) id (kind c.result) r tr
      (makes_tile s.state ((r, tr) ∷ []) c.result (slice_of x (picks ds os) (picks ds ns)) s.tiled s.knows s.at_out refl)
      x id' id'' z arg tz c.offsets c.sizes (picks ds os) (s.knows arg.0 there ∙ at_arg) (apart M r.0 arg.0 new there)
      (λ d. o.offsets (after s.state r d) (knows_after s.state s.knows r d new))

  -- where it isn't
  pub whole_body : (arg : ValueId) (x : Grid) (id id' : OpId) (r : ValueId) (tr : Ty) → M arg.0 ≡ true → t.values arg.0 ≡ Cells width x → x.extents ≡ picks ds ns →
      run (slice_ops fs ++ (record { id = id; results = (r, tr) ∷ []; kind = kind arg } ∷ yield_of id' r ∷ [])) t ≡ ended (Cells width) (whole_step (picks ds) step os ns x)
  whole_body arg x id id' r tr there at_arg shape =
      let w : BuildsTiles M t (operand_tiles cut os ns ms ins) fs = built in
      w.builds.runs _
      ∙ yields_tile w.state width (whole_step (picks ds) step os ns x) id (kind arg) r tr
      (makes_tile w.state ((r, tr) ∷ []) arg x w.tiled w.builds.knows (w.builds.knows arg.0 there ∙ at_arg) shape) id'

  -- THE BODY OF A `scf.forall`
  pub noted_body : (arg : ValueId) (x : Grid) (c : Slice) (id id' : OpId) (r : ValueId) (tr : Ty) → M arg.0 ≡ true → t.values arg.0 ≡ Cells width x → IsOutputSlice M t os ns ds fs c → M r.0 ≡ false →
      t.shared ≡ arg ∷ [] → t.inserts ≡ [] →
      insertions_of (run (slice_ops fs ++ (slice_op arg c ∷ record { id = id; results = (r, tr) ∷ []; kind = kind c.result }
      ∷ record { id = id'; results = []; kind = ParallelInsert r arg c.offsets c.sizes } ∷ [])) t) ≡ noted (picks ds os) (one_tile x)
  unfolding slice_of
  noted_body arg x c id id' r tr there at_arg o new shares none =
      let s : Sliced arg x c = sliced arg x c there at_arg o in
      ap insertions_of (s.runs _)
      ∙ notes_tile s.state width (one_tile x) id (kind c.result) r tr
      (makes_tile s.state ((r, tr) ∷ []) c.result (slice_of x (picks ds os) (picks ds ns)) s.tiled s.knows s.at_out refl)
      id' arg c.offsets c.sizes (picks ds os) (s.shared ∙ shares) (s.inserts ∙ none) (λ d. o.offsets (after s.state r d) (knows_after s.state s.knows r d new))

  -- THE TILE BEFORE ANYTHING
  pub made_tile : (arg : ValueId) (x : Grid) (c : Slice) (id : OpId) (r : ValueId) (tr : Ty) → M arg.0 ≡ true → t.values arg.0 ≡ Cells width x → IsOutputSlice M t os ns ds fs c → M r.0 ≡ false →
      MakesTile M t (slice_ops fs ++ (slice_op arg c ∷ record { id = id; results = (r, tr) ∷ []; kind = kind c.result } ∷ [])) r width (one_tile x)
  unfolding slice_of run
  made_tile arg x c id r tr there at_arg o new =
      let s : Sliced arg x c = sliced arg x c there at_arg o in
      record {
        state = λ g. after s.state r (Cells width g);
        runs = λ rest.
            ap (λ l. run l t) (append_assoc (slice_ops fs) (slice_op arg c ∷ record { id = id; results = (r, tr) ∷ []; kind = kind c.result } ∷ []) rest)
            ∙ s.runs (record { id = id; results = (r, tr) ∷ []; kind = kind c.result } ∷ rest)
            ∙ ap (λ o. then_goes o (run rest)) (makes_tile s.state ((r, tr) ∷ []) c.result (slice_of x (picks ds os) (picks ds ns)) s.tiled s.knows s.at_out refl)
            ∙ goes_on s.state rest (one_tile x);
        knows = λ g. knows_after s.state s.knows r (Cells width g) new;
        holds = λ g. set_same s.state.values r.0 (Cells width g);
        shared = λ g. s.shared;
        inserts = λ g. s.inserts;
      }
    where
      goes_on : (u : State) (rest : List Op) (o : Option Grid) → then_goes (made ((r, tr) ∷ []) u (option_map (Cells width) o)) (run rest) ≡ then_grid o (λ g. run rest (after u r (Cells width g)))
      goes_on u rest None = refl
      goes_on u rest (Some g) = refl

  -- where the output's slice is there
  pub tile_of_slice : (v : ValueId) (x : Grid) (id : OpId) (r : ValueId) (tr : Ty) → M v.0 ≡ true → t.values v.0 ≡ Cells width (slice_of x (picks ds os) (picks ds ns)) → M r.0 ≡ false →
      MakesTile M t (slice_ops fs ++ (record { id = id; results = (r, tr) ∷ []; kind = kind v } ∷ [])) r width (one_tile x)
  unfolding slice_of run
  tile_of_slice v x id r tr there at_v new =
      let w : BuildsTiles M t (operand_tiles cut os ns ms ins) fs = built in
      record {
        state = λ g. after w.state r (Cells width g);
        runs = λ rest.
            ap (λ l. run l t) (append_assoc (slice_ops fs) (record { id = id; results = (r, tr) ∷ []; kind = kind v } ∷ []) rest)
            ∙ w.builds.runs (record { id = id; results = (r, tr) ∷ []; kind = kind v } ∷ rest)
            ∙ ap (λ o. then_goes o (run rest)) (makes_tile w.state ((r, tr) ∷ []) v (slice_of x (picks ds os) (picks ds ns)) w.tiled w.builds.knows (w.builds.knows v.0 there ∙ at_v) refl)
            ∙ goes_on w.state rest (one_tile x);
        knows = λ g. knows_after w.state w.builds.knows r (Cells width g) new;
        holds = λ g. set_same w.state.values r.0 (Cells width g);
        shared = λ g. w.builds.shared;
        inserts = λ g. w.builds.inserts;
      }
    where
      goes_on : (u : State) (rest : List Op) (o : Option Grid) → then_goes (made ((r, tr) ∷ []) u (option_map (Cells width) o)) (run rest) ≡ then_grid o (λ g. run rest (after u r (Cells width g)))
      goes_on u rest None = refl
      goes_on u rest (Some g) = refl

  -- with its insertion
  pub inserted_tile : (arg : ValueId) (x : Grid) (c : Slice) (id id' : OpId) (r z : ValueId) (tr tz : Ty) → M arg.0 ≡ true → t.values arg.0 ≡ Cells width x → IsOutputSlice M t os ns ds fs c → M r.0 ≡ false → M z.0 ≡ false →
      MakesTile M t ((slice_ops fs ++ (slice_op arg c ∷ record { id = id; results = (r, tr) ∷ []; kind = kind c.result } ∷ [])) ++ (record { id = id'; results = (z, tz) ∷ []; kind = InsertSlice r arg c.offsets c.sizes } ∷ []))
      z width (tile_step (picks ds) step os ns (picks ds os) (picks ds ns) x)
  unfolding kind_meaning run
  inserted_tile arg x c id id' r z tr tz there at_arg o new new' =
      let m : MakesTile M t (slice_ops fs ++ (slice_op arg c ∷ record { id = id; results = (r, tr) ∷ []; kind = kind c.result } ∷ [])) r width (one_tile x) = made_tile arg x c id r tr there at_arg o new in
      let one : Grid = or_else x (one_tile x) in
      record {
        state = λ g. after (m.state one) z (Cells width g);
        runs = λ rest.
            ap (λ l. run l t) (append_assoc (slice_ops fs ++ (slice_op arg c ∷ record { id = id; results = (r, tr) ∷ []; kind = kind c.result } ∷ [])) (record { id = id'; results = (z, tz) ∷ []; kind = InsertSlice r arg c.offsets c.sizes } ∷ []) rest)
            ∙ m.runs (record { id = id'; results = (z, tz) ∷ []; kind = InsertSlice r arg c.offsets c.sizes } ∷ rest)
            ∙ goes_on m.state m.knows m.holds rest (one_tile x);
        knows = λ g. knows_after (m.state one) (m.knows one) z (Cells width g) new';
        holds = λ g. set_same (m.state one).values z.0 (Cells width g);
        shared = λ g. m.shared one;
        inserts = λ g. m.inserts one;
      }
    where
      goes_on : (state : Grid → State) → ((g : Grid) → Knows M t (state g)) → ((g : Grid) → (state g).values r.0 ≡ Cells width g) → (rest : List Op) (p : Option Grid) →
          then_grid p (λ g. run (record { id = id'; results = (z, tz) ∷ []; kind = InsertSlice r arg c.offsets c.sizes } ∷ rest) (state g))
          ≡ then_grid (option_map (λ t. insert_into t (picks ds os) x) p) (λ g. run rest (after (state (or_else x p)) z (Cells width g)))
      goes_on state knows holds rest None = refl
      goes_on state knows holds rest (Some g) =
          let dest : (state g).values arg.0 ≡ Cells width x = knows g arg.0 there ∙ at_arg in
          λ j. then_goes (made ((z, tz) ∷ []) (state g) (Some (Cells (width_of (dest j)) (insert_into (grid_of (holds g j)) (o.offsets (state g) (knows g) j) (grid_of (dest j)))))) (run rest)

-- an insertion is noted
pub is_noted : InsertionIsNoted
unfolding kind_meaning run
is_noted s id source dest offsets sizes rest k width t holds position =
    λ j. then_goes (insertion_noted (position j) (grid_of (holds j)) (places_in s.values offsets) s) (run rest)
