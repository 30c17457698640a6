-- The laws. Each is the contract of a function in `src/laws.rt`.
use Rattle.std.specs.Prelude.{◌≡◌, ℕ, ◌<◌, Bool, false, List, [], ◌∷◌, ◌++◌, map, slice_get, length, Option, Some, option_map, slice_index, slice_index_or, ◌⊎◌, true, replicate}
use Rattle.affine_maps.specs.Map.{dimension}
use Rattle.affine_maps.specs.Shape.{MapShape}
use Rattle.payload_ops.specs.Shape.{PayloadShape}
use Rattle.payload_ops.specs.Payload.{IsPayload}
use Rattle.payload_ops.specs.Values.{payload_value, is_supplied}
use Rattle.mlir_base.specs.declared.types.ElemTy.{ElemTy}
use Rattle.mlir_base.specs.declared.types.ElemTy.TheVariants.{Int}
use Rattle.payload_ops.specs.declared.step.Arg.{Arg}
use Rattle.payload_ops.specs.declared.step.PayloadStep.{PayloadStep}
use Rattle.mlir_ir.specs.declared.tree.Idx.{Idx}
use Rattle.mlir_ir.specs.declared.tree.Op.{Op}
use Rattle.mlir_ir.specs.declared.tree.OpId.{OpId}
use Rattle.mlir_ir.specs.declared.tree.OpKind.{Forall, ParallelInsert, OpKind, Matmul, BatchMatmul, Fill, Transpose, Broadcast}
use Rattle.mlir_ir.specs.declared.tree.Ty.{Ty}
use Rattle.mlir_ir.specs.declared.tree.ValueId.{ValueId}
use Rattle.mlir_meaning.specs.Grids.{settled, Fits, IsFull, Each, count_up, InBox, lies_in, same_point}
use Rattle.mlir_meaning.specs.Loops.{ForallHead, forall_box, forall_state, insertions_of, output_of, arguments, starts}
use Rattle.mlir_meaning.specs.Meaning.{kind_meaning, places_in, run}
use Rattle.mlir_meaning.specs.Moves.{slice_of}
use Rattle.mlir_meaning.specs.States.{State, made, width_of}
use Rattle.mlir_meaning.specs.Structured.{generic_box, generic_element, generic_result, multiply_add, copying}
use Rattle.mlir_meaning.specs.declared.values.Datum.{Datum}
use Rattle.mlir_meaning.specs.declared.values.Datum.TheVariants.{Cells}
use Rattle.mlir_meaning.specs.declared.values.Grid.{Grid}
use Rattle.point_laws.specs.Boxes.{picks}
use Rattle.point_laws.specs.Folds.{Combines}
use Rattle.point_laws.specs.Tiles.{Cut, counts, is_cut, cut_dims, tile_offsets}
use Rattle.region_laws.specs.Bodies.{Input, AreInputs, AreSlicesOf, Slice, TileBody, DoesTile, IsOutputOf, Names, slice_ops, tiled_op, tile_ops, insert_op, sliced_body, noting_body, whole_body, slice_names, MeansTiled}
use Rattle.region_laws.specs.Among.{GivesAt, BeginsAmong, NotedAt, InsertsAt, IsWritten, restarted, IsNestAt, MakesTile}
use Rattle.region_laws.specs.Spans.{AreSpans, span_offsets, span_sizes}
use Rattle.region_laws.specs.Instances.{Instance, step_of, result_of, IsTypedInstance, FitsItsBox}
use Rattle.region_laws.specs.Nests.{Level, TileLoop, AreNewVars, Begins, with_value, ended, noted, Turns, results_of, turns_op}
use Rattle.region_laws.specs.Operands.{Operand, maps_in, olds, news, tiled_operands, AreRead, CutsOutput, HasBox, IsMoved, IsRead, IsTile, inner_map, inner_maps, is_sliced, maps_of, operand_tile, operand_tiles}
use Rattle.region_laws.specs.Regions.{AddsRegions, moved, tile, tile_step, whole_step}
use Rattle.region_laws.specs.Shifts.{Offset, tile_payload, tile_captured, IsOffset, Stays}
use Rattle.payload_forms.specs.Moved.{own_index}
use Rattle.payload_forms.specs.Captured.{hoisted, used, in_front, placed}
use Rattle.region_laws.specs.Captured.{IsBehind, IsNotCaptured}
use Rattle.region_laws.specs.TileLoops.{region_tile, IsNest, NotesTiles, nest_op, sliced_tile, started_tile, whole_tile}
use Rattle.mlir_ir.specs.declared.tree.Iter.TheVariants.{Parallel, Reduction}
use Rattle.mlir_meaning.specs.Points.{select_map, place_of, kept}

-- OPERANDS
-- what is asked of a generic follows from what is known of each axis
abbrev pub TypedByAxes : Type 0
TypedByAxes = (g : Instance) → FitsItsBox g → IsTypedInstance g

-- what the tile of an operand has at a point, the operand has at the point moved
abbrev pub OperandsHaveTiles : Type 0
OperandsHaveTiles = (cut : ℕ → Bool) (box os ns : List ℕ) → Cut cut box os ns → (m : MapShape) (x : Datum) →
    IsRead box m x →
    IsTile os ns m x (inner_map cut m) (operand_tile cut os ns m x)

-- from an operation's maps and operands there is one record an operand, with its tile
abbrev pub OperandsAreRecords : Type 0
OperandsAreRecords = (cut : ℕ → Bool) (box os ns : List ℕ) → Cut cut box os ns → (maps : List MapShape)
    (operands : List Datum) → AreRead box maps operands →
    let records : List Operand = tiled_operands cut os ns maps operands in
    (maps_in records ≡ maps) × (olds records ≡ operands) × (news records ≡ operand_tiles cut os ns maps operands)
    × Each (λ (o : Operand). IsTile os ns o.axes o.old (inner_map cut o.axes) o.new) records

-- what is asked of a body's inputs, one record an input
abbrev pub InputsAreRecords : Type 0
InputsAreRecords = (N : ℕ → Bool) (s : State) (cut : ℕ → Bool) (os ns : List ℕ) (seen : ℕ → Bool)
    (inputs : List Input) → AreInputs N s cut os ns seen inputs →
    AreSlicesOf N s cut os ns seen (map (λ (i : Input). i.axes) inputs) (map (λ (i : Input). i.holds) inputs)
    (map (λ (i : Input). (i.name, i.slice)) inputs)

-- the box of the generic on the tiles is the tile
abbrev pub TilesHaveBox : Type 0
TilesHaveBox = (cut : ℕ → Bool) (box os ns : List ℕ) → Cut cut box os ns →
    (maps : List MapShape) (operands : List Datum) → HasBox box maps operands →
    generic_box (inner_maps cut maps) (length box) (operand_tiles cut os ns maps operands) ≡ ns

-- the generic on the operands' tiles is the fold over the region, from the tile s of the output
abbrev pub TiledGenericIsTile : Type 0
TiledGenericIsTile = (g : Instance) → IsTypedInstance g → (cut : ℕ → Bool) (os ns : List ℕ) → Cut cut g.box os ns →
    (captured : List ℕ) (payload : PayloadShape) → IsMoved os ns g.payload g.captured payload captured → (s : Grid) →
    s.extents ≡ picks g.ds ns →
    generic_result (maps_of (inner_maps cut g.maps) g.box g.ds) (length g.box) (operand_tiles cut os ns g.maps g.ins)
    (Cells g.width s) captured payload
    ≡ option_map (Cells g.width) (settled s.extents (generic_element (picks g.ds) (moved (step_of g) os) ns s))

-- a tile of which the output is sliced adds its region's points, and one of which it isn't
abbrev pub TilesAddRegions : Type 0
TilesAddRegions = (step : ℕ → List ℕ → Option ℕ) (box ts ds : List ℕ) → Each (λ d. d < length box) ds →
    ((es : List ℕ) → es ≡ picks ds box → AddsRegions (picks ds) step box es ts (sliced_tile step box ts ds))
    × ((es : List ℕ) → is_sliced (is_cut ts) (map dimension ds) ≡ false →
    AddsRegions (picks ds) step box es ts (whole_tile step box ts ds))

-- where only the output's dimensions are cut, a slice of the whole is the tile; the whole is there where nothing traps
abbrev pub SliceOfWholeIsTile : Type 0
SliceOfWholeIsTile = (step : ℕ → List ℕ → Option ℕ) (cut : ℕ → Bool) (box os ns : List ℕ) → Cut cut box os ns →
    (ds : List ℕ) → Each (λ d. d < length box) ds → CutsOutput cut box ds → (cells results : List ℕ) →
    let grid : List ℕ → Grid = λ cs. record { extents = picks ds box; cells = cs } in
    settled (picks ds box) (generic_element (picks ds) step box (grid cells)) ≡ Some (grid results) →
    tile (picks ds) step os ns (picks ds os) (picks ds ns) (grid cells)
    ≡ Some (slice_of (grid results) (picks ds os) (picks ds ns))

-- where only the output's dimensions are cut, the slice of a generic's result is the tile of its region
abbrev pub SliceOfResultIsTile : Type 0
SliceOfResultIsTile = (g : Instance) → IsTypedInstance g → (cut : ℕ → Bool) (os ns : List ℕ) → Cut cut g.box os ns →
    CutsOutput cut g.box g.ds → (r : Grid) → result_of g ≡ Some (Cells g.width r) →
    region_tile g os ns g.out ≡ Some (slice_of r (picks g.ds os) (picks g.ds ns))

-- PAYLOADS
-- it gives what the payload gave; so payloads that are the same with their captured values in front give the same
abbrev pub HoistedGives : Type 0
HoistedGives = (c width caps : ℕ) (f : ℕ → ℕ) (p : PayloadShape) → IsPayload p →
    Each (λ (s : PayloadStep). is_supplied width caps s.op ≡ true) p.steps →
    ((k : ℕ) → k < caps → f k < c) → (point outer own ins : List ℕ) (out : ℕ) →
    ((k : ℕ) → k < caps → slice_index_or outer (f k) 0 ≡ slice_index_or own k 0) →
    payload_value (hoisted own_index c f p) (record { point = point; outer = outer; ins = ins; out = out })
    ≡ payload_value p (record { point = point; outer = own; ins = ins; out = out })

-- each captured value that is used has one step, right before the first step that uses it; the others have none,
-- and the payload gives the same
abbrev pub PlacedGives : Type 0
PlacedGives = (c : ℕ) (ins_t : List ElemTy) (out_t : ElemTy) (rest : List PayloadStep) (yielded : Arg) →
    IsPayload (in_front c ins_t out_t rest yielded) → Each (λ (s : PayloadStep). IsNotCaptured s.op) rest →
    IsBehind c yielded →
    (point outer ins : List ℕ) (out : ℕ) →
    IsPayload (placed c ins_t out_t rest yielded)
    × (payload_value (placed c ins_t out_t rest yielded)
    (record { point = point; outer = map (λ k. slice_index_or outer k 0) (used c [] rest); ins = ins; out = out })
    ≡ payload_value (in_front c ins_t out_t rest yielded)
    (record { point = point; outer = outer; ins = ins; out = out }))

-- the tile's payload is one, and gives at a point what the payload gives at the point moved: values keep their types
-- where steps have other numbers
abbrev pub IndicesMove : Type 0
IndicesMove = (payload : PayloadShape) (w : ℕ) (box os ns outer outer' : List ℕ) (c : ℕ) (f : ℕ → ℕ)
    (offsets : ℕ → Offset) → Fits box os ns → IsPayload payload → payload.out ≡ Int w →
    Each (λ (s : PayloadStep). is_supplied (length box) (length outer) s.op ≡ true) payload.steps →
    ((k : ℕ) → k < length outer → (f k < c) × (slice_index outer' (f k) ≡ slice_index outer k)) →
    ((d : ℕ) → d < length box → IsOffset c outer' (slice_index os d) (offsets d)) →
    IsPayload (tile_payload offsets c f payload)
    × IsMoved os ns payload outer (tile_payload offsets c f payload)
    (map (slice_index outer') (tile_captured offsets c f payload))

-- a payload that names no dimension with an offset stays as it is
abbrev pub OthersStay : Type 0
OthersStay = (payload : PayloadShape) (box os ns outer : List ℕ) → Fits box os ns →
    Each (λ (s : PayloadStep). Stays os s.op) payload.steps →
    IsMoved os ns payload outer payload outer

-- BODIES, of a region of the box at offsets os with sizes ns
-- slices of the inputs and of the carried tensor, the tiled operation, its insertion and the yield do its tile
abbrev pub BodyDoesTile : Type 0
BodyDoesTile = (g : Instance) (cut : ℕ → Bool) (os ns : List ℕ) (M : ℕ → Bool) (t : State) (b : TileBody) →
    DoesTile g cut os ns M t b → (arg : ValueId) (x : Grid) (c : Slice) → IsOutputOf g os ns M t b arg x c →
    (n : Names) → M n.result.0 ≡ false →
    run (sliced_body b arg c n) t
    ≡ ended (Cells g.width) (tile_step (picks g.ds) (step_of g) os ns (picks g.ds os) (picks g.ds ns) x)

-- so do slices of the inputs and the tiled operation, where the carried tensor isn't sliced
abbrev pub BodyOfWholeOutput : Type 0
BodyOfWholeOutput = (g : Instance) (cut : ℕ → Bool) (os ns : List ℕ) (M : ℕ → Bool) (t : State) (b : TileBody) →
    DoesTile g cut os ns M t b → (arg : ValueId) (x : Grid) → M arg.0 ≡ true → t.values arg.0 ≡ Cells g.width x →
    x.extents ≡ picks g.ds ns → (n : Names) →
    run (whole_body b arg n) t ≡ ended (Cells g.width) (whole_step (picks g.ds) (step_of g) os ns x)

-- and the body of a `scf.forall` notes the tile down
abbrev pub BodyNotesTile : Type 0
BodyNotesTile = (g : Instance) (cut : ℕ → Bool) (os ns : List ℕ) (M : ℕ → Bool) (t : State) (b : TileBody) →
    DoesTile g cut os ns M t b → (arg : ValueId) (x : Grid) (c : Slice) → IsOutputOf g os ns M t b arg x c →
    (n : Names) → M n.result.0 ≡ false → t.shared ≡ arg ∷ [] → t.inserts ≡ [] →
    insertions_of (run (noting_body b arg c n) t) ≡ noted (picks g.ds os) (region_tile g os ns x)

-- the state in which the body of a `scf.forall` begins
abbrev pub ForallBegins : Type 0
ForallBegins = (N : ℕ → Bool) (u : State) (dims : List (ℕ × ℕ)) (vs : List ValueId) (lower upper stride : List Idx)
    (arg outs : ValueId) (ty : Ty) (q : List ℕ) →
    let h : ForallHead = record {
      vars = vs;
      lower = lower;
      upper = upper;
      step = stride;
      shared = (arg, ty, outs)
          ∷ [];
    } in
    TileLoop dims u h → N arg.0 ≡ false → AreNewVars (with_value N arg) vs →
    Begins N u dims vs arg (u.values outs.0) q (forall_state u h q)

-- and where there are several shared outputs
abbrev pub ForallBeginsAmong : Type 0
ForallBeginsAmong = (N : ℕ → Bool) (u : State) (dims : List (ℕ × ℕ)) (h : ForallHead) (q : List ℕ) → TileLoop dims u h →
    AreNewVars N (arguments h.shared ++ h.vars) → BeginsAmong N u dims h q (forall_state u h q)

-- slices of the inputs and of the output and the tiled operation make the tile, whatever stands behind them
abbrev pub TileIsMade : Type 0
TileIsMade = (g : Instance) (cut : ℕ → Bool) (os ns : List ℕ) (M : ℕ → Bool) (t : State) (b : TileBody) →
    DoesTile g cut os ns M t b → (arg : ValueId) (x : Grid) (c : Slice) → IsOutputOf g os ns M t b arg x c →
    (n : Names) → M n.result.0 ≡ false →
    MakesTile M t (tile_ops b arg c n) n.result g.width (region_tile g os ns x)

-- so do slices of the inputs and the tiled operation, where the output's slice is there
abbrev pub TileOfSliceIsMade : Type 0
TileOfSliceIsMade = (g : Instance) (cut : ℕ → Bool) (os ns : List ℕ) (M : ℕ → Bool) (t : State) (b : TileBody) →
    DoesTile g cut os ns M t b → (v : ValueId) (x : Grid) → M v.0 ≡ true →
    t.values v.0 ≡ Cells g.width (slice_of x (picks g.ds os) (picks g.ds ns)) → (n : Names) → M n.result.0 ≡ false →
    MakesTile M t (slice_ops b.inputs ++ (tiled_op b v n ∷ [])) n.result g.width (region_tile g os ns x)

-- with its insertion they make the tensor with the tile in it
abbrev pub TileIsInserted : Type 0
TileIsInserted = (g : Instance) (cut : ℕ → Bool) (os ns : List ℕ) (M : ℕ → Bool) (t : State) (b : TileBody) →
    DoesTile g cut os ns M t b → (arg : ValueId) (x : Grid) (c : Slice) → IsOutputOf g os ns M t b arg x c →
    (n : Names) → M n.result.0 ≡ false → M n.inserted.0 ≡ false →
    MakesTile M t (tile_ops b arg c n ++ (insert_op arg c n ∷ [])) n.inserted g.width
    (tile_step (picks g.ds) (step_of g) os ns (picks g.ds os) (picks g.ds ns) x)

-- an insertion into a shared output is noted, by the output's position
abbrev pub InsertionIsNoted : Type 0
InsertionIsNoted = (s : State) (id : OpId) (source dest : ValueId) (offsets sizes : List Idx)
    (rest : List Op) (k width : ℕ) (t : Grid) → s.values source.0 ≡ Cells width t → output_of s dest ≡ Some k →
    run (record { id = id; results = []; kind = ParallelInsert source dest offsets sizes } ∷ rest) s
    ≡ run rest (record {
      values = s.values;
      shared = s.shared;
      inserts = s.inserts
          ++ record { output = k; tile = t; offsets = places_in s.values offsets } ∷ [];
    })

-- NAMED OPERATIONS
-- the tile of a matmul is one
abbrev pub MatmulTileIsMatmul : Type 0
MatmulTileIsMatmul = (box : List ℕ) (cut : ℕ → Bool) (os ns : List ℕ) (x y : Datum) (width : ℕ)
    (a b : ValueId) (fs : List (ValueId × Option Slice)) → slice_names fs ≡ a ∷ b ∷ [] → length box ≡ 3 →
    MeansTiled box cut os ns (select_map 3 (0 ∷ 2 ∷ []) ∷ select_map 3 (2 ∷ 1 ∷ []) ∷ []) (0 ∷ 1 ∷ []) (x ∷ y ∷ [])
    width
    (Parallel ∷ Parallel ∷ Reduction ∷ []) fs [] (multiply_add (width_of x) width) (λ outs. Matmul a b outs)

-- that of a batch_matmul is one
abbrev pub BatchMatmulTileIsBatchMatmul : Type 0
BatchMatmulTileIsBatchMatmul = (box : List ℕ) (cut : ℕ → Bool) (os ns : List ℕ) (x y : Datum) (width : ℕ)
    (a b : ValueId) (fs : List (ValueId × Option Slice)) → slice_names fs ≡ a ∷ b ∷ [] → length box ≡ 4 →
    MeansTiled box cut os ns (select_map 4 (0 ∷ 1 ∷ 3 ∷ []) ∷ select_map 4 (0 ∷ 3 ∷ 2 ∷ []) ∷ []) (0 ∷ 1 ∷ 2 ∷ [])
    (x ∷ y ∷ [])
    width (Parallel ∷ Parallel ∷ Parallel ∷ Reduction ∷ []) fs [] (multiply_add (width_of x) width)
    (λ outs. BatchMatmul a b outs)

-- a copy into all dimensions, from those that the input's map selects
abbrev pub MeansCopy : List ℕ → (ℕ → Bool) → List ℕ → List ℕ → List ℕ → Datum → ℕ → List (ValueId × Option Slice) →
    (ValueId → OpKind) → Type 0
MeansCopy box cut os ns ds x width fs kind =
    MeansTiled box cut os ns (select_map (length box) ds ∷ []) (count_up 0 (length box)) (x ∷ []) width
    (replicate (length box) Parallel) fs [] (copying width) kind

-- that of a fill is one
abbrev pub FillTileIsFill : Type 0
FillTileIsFill = (box : List ℕ) (cut : ℕ → Bool) (os ns : List ℕ) (x : Datum) (width : ℕ)
    (v : ValueId) (fs : List (ValueId × Option Slice)) → slice_names fs ≡ v ∷ [] →
    MeansCopy box cut os ns [] x width fs (λ outs. Fill v outs)

-- that of a transpose is one
abbrev pub TransposeTileIsTranspose : Type 0
TransposeTileIsTranspose = (box : List ℕ) (cut : ℕ → Bool) (os ns order : List ℕ) (x : Datum) (width : ℕ) (v : ValueId)
    (fs : List (ValueId × Option Slice)) → slice_names fs ≡ v ∷ [] → length order ≡ length box →
    MeansCopy box cut os ns (map (λ axis. place_of axis 0 order) (count_up 0 (length box))) x width fs
    (λ outs. Transpose v outs order)

-- that of a broadcast is one
abbrev pub BroadcastTileIsBroadcast : Type 0
BroadcastTileIsBroadcast = (box : List ℕ) (cut : ℕ → Bool) (os ns added : List ℕ) (x : Datum) (width : ℕ) (v : ValueId)
    (fs : List (ValueId × Option Slice)) → slice_names fs ≡ v ∷ [] →
    MeansCopy box cut os ns (kept added 0 (count_up 0 (length box))) x width fs (λ outs. Broadcast v outs added)

-- LOOPS
-- a nest of `scf.for` over the tiles means what the generic means, where only the output's dimensions are cut, or
-- the payload has a combiner
abbrev pub TileForMeansGeneric : Type 0
TileForMeansGeneric = (g : Instance) (ts : List ℕ) → IsTypedInstance g → IsFull g.out →
    (one : List ℕ → Grid → Option Grid) → AddsRegions (picks g.ds) (step_of g) g.box g.out.extents ts one →
    (N : ℕ → Bool) (u : State) (lower : ValueId) (ty : Ty) (l : Level) (ls : List Level) (current : ValueId)
    (inner : List Op) →
    IsNest N u (cut_dims g.box ts) lower l ls current g.width g.out one inner →
    CutsOutput (is_cut ts) g.box g.ds ⊎ Combines g.payload →
    kind_meaning (nest_op lower ty l ls inner current).kind ((l.result, ty) ∷ []) u
    ≡ made ((l.result, ty) ∷ []) u (result_of g)

-- and so does a `scf.forall`, where only the output's dimensions are cut
abbrev pub TileForallMeansGeneric : Type 0
TileForallMeansGeneric = (g : Instance) (ts : List ℕ) → IsTypedInstance g → IsFull g.out →
    CutsOutput (is_cut ts) g.box g.ds →
    (u : State) (vs : List ValueId) (lower upper stride : List Idx) (arg outs : ValueId) (ty : Ty) (inner : List Op)
    (rs : List (ValueId × Ty)) →
    let h : ForallHead = record {
      vars = vs;
      lower = lower;
      upper = upper;
      step = stride;
      shared = (arg, ty, outs)
          ∷ [];
    } in
    TileLoop (cut_dims g.box ts) u h → u.values outs.0 ≡ Cells g.width g.out →
    NotesTiles u h (cut_dims g.box ts) (λ q. picks g.ds (tile_offsets g.box ts q))
    (started_tile (step_of g) g.box ts g.ds g.out) inner →
    kind_meaning (Forall vs lower upper stride ((arg, ty, outs) ∷ []) inner) rs u ≡ made rs u (result_of g)

-- AMONG OTHER VALUES
-- a nest that carries several values gives the generic's result as the one into which its tiles go, whatever it does
-- with the others, or fails
abbrev pub TileForGivesGeneric : Type 0
TileForGivesGeneric = (g : Instance) (ts : List ℕ) → IsTypedInstance g → IsFull g.out →
    (one : List ℕ → Grid → Option Grid) → AddsRegions (picks g.ds) (step_of g) g.box g.out.extents ts one →
    (N : ℕ → Bool) (u : State) (lower : ValueId) (l : Turns) (ls : List Turns) (currents : List ValueId) (k : ℕ)
    (inner : List Op) → IsNestAt N u (cut_dims g.box ts) lower l ls currents k g.width g.out one inner →
    CutsOutput (is_cut ts) g.box g.ds ⊎ Combines g.payload →
    GivesAt k (result_of g) (results_of l.carried) u
    (kind_meaning (turns_op lower l ls inner currents).kind (results_of l.carried) u)

-- and so does a `scf.forall` with several shared outputs, where only the output's dimensions are cut
abbrev pub TileForallGivesGeneric : Type 0
TileForallGivesGeneric = (g : Instance) (ts : List ℕ) → IsTypedInstance g → IsFull g.out →
    CutsOutput (is_cut ts) g.box g.ds →
    (u : State) (h : ForallHead) (k : ℕ) (inner : List Op) (rs : List (ValueId × Ty)) →
    TileLoop (cut_dims g.box ts) u h → slice_get (starts u.values h.shared) k ≡ Some (Cells g.width g.out) →
    ((q : List ℕ) → InBox (counts (cut_dims g.box ts)) q → NotedAt k (picks g.ds (tile_offsets g.box ts q))
    (started_tile (step_of g) g.box ts g.ds g.out q) (insertions_of (run inner (forall_state u h q)))) →
    GivesAt k (result_of g) rs u (kind_meaning (Forall h.vars h.lower h.upper h.step h.shared inner) rs u)

-- a shared output of which each element is written may start from any tensor of its extents
abbrev pub CoveredOutputMayStartAnywhere : Type 0
CoveredOutputMayStartAnywhere = (u : State) (h : ForallHead) (k width : ℕ) (v : ValueId) (old new : Grid)
    (inner inner' : List Op) (rs : List (ValueId × Ty)) →
    let h' : ForallHead = record h { shared = restarted k v h.shared } in
    slice_get (starts u.values h.shared) k ≡ Some (Cells width old) → u.values v.0 ≡ Cells width new →
    new.extents ≡ old.extents → IsFull old → IsFull new →
    ((q : List ℕ) → InBox (forall_box u h) q →
    insertions_of (run inner' (forall_state u h' q)) ≡ insertions_of (run inner (forall_state u h q))) →
    ((e : List ℕ) → InBox old.extents e →
    (q : List ℕ) × InBox (forall_box u h) q × IsWritten k e (insertions_of (run inner (forall_state u h q)))) →
    kind_meaning (Forall h.vars h.lower h.upper h.step (restarted k v h.shared) inner') rs u
    ≡ kind_meaning (Forall h.vars h.lower h.upper h.step h.shared inner) rs u

-- where each variable is the offset on one axis, the regions are disjoint and cover: each element lies in that of one
-- turn
abbrev pub RegionsCover : Type 0
RegionsCover = (box es : List ℕ) (axes : List (Option (ℕ × ℕ))) → AreSpans box es axes → (e : List ℕ) → InBox es e →
    (q : List ℕ) × InBox box q × ((turns : List ℕ) → InBox box turns →
    lies_in (span_offsets turns axes) (span_sizes turns es axes) e ≡ same_point q turns)

-- so a shared output whose insertions stand so by the loop's variables may start from any tensor of its extents
abbrev pub SpannedOutputMayStartAnywhere : Type 0
SpannedOutputMayStartAnywhere = (u : State) (h : ForallHead) (k width : ℕ) (v : ValueId) (old new : Grid)
    (inner inner' : List Op) (rs : List (ValueId × Ty)) (axes : List (Option (ℕ × ℕ))) →
    let h' : ForallHead = record h { shared = restarted k v h.shared } in
    AreSpans (forall_box u h) old.extents axes →
    slice_get (starts u.values h.shared) k ≡ Some (Cells width old) → u.values v.0 ≡ Cells width new →
    new.extents ≡ old.extents → IsFull old → IsFull new →
    ((q : List ℕ) → InBox (forall_box u h) q →
    insertions_of (run inner' (forall_state u h' q)) ≡ insertions_of (run inner (forall_state u h q))) →
    ((q : List ℕ) → InBox (forall_box u h) q → InsertsAt k (span_offsets q axes) (span_sizes q old.extents axes)
    (insertions_of (run inner (forall_state u h q)))) →
    kind_meaning (Forall h.vars h.lower h.upper h.step (restarted k v h.shared) inner') rs u
    ≡ kind_meaning (Forall h.vars h.lower h.upper h.step h.shared inner) rs u
