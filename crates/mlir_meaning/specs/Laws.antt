-- The laws of the meaning. Each is the contract of a function in `src/laws.rt`.
use Rattle.std.specs.Prelude.{◌≡◌, ℕ, ◌==◌, ◌&&◌, Bool, true, false, not, List, [], ◌∷◌, ◌++◌, map, slice_index_or}
use Rattle.mlir_ir.specs.Count.{uses_op}
use Rattle.mlir_ir.specs.Shape.{FuncShape, TensorShape, volume}
use Rattle.mlir_ir.specs.declared.tree.Op.{Op}
use Rattle.mlir_ir.specs.declared.tree.Ty.{Ty}
use Rattle.mlir_ir.specs.declared.tree.ValueId.{ValueId}
use Rattle.mlir_ir.specs.declared.tree.OpKind.{Fill, Matmul, BatchMatmul, Transpose, Broadcast}
use Rattle.mlir_meaning.specs.Grids.{Grid, points, place, count_up, outside, at, tabulate, plus, minus, lies_in, InBox, Fits, IsFull, Each}
use Rattle.mlir_meaning.specs.States.{Datum, State, Goes, then_goes, defines, names_of, width_of}
use Rattle.mlir_meaning.specs.Structured.{generic_of, rank_of, fill_form, matmul_form, batch_matmul_form, transpose_form, broadcast_form}
use Rattle.mlir_meaning.specs.Moves.{slice_of, insert_into}
use Rattle.mlir_meaning.specs.Meaning.{kind_meaning, run, initial_state, meaning}
use Rattle.mlir_meaning.specs.Contexts.{Context, plug, func_at, Reaches}
use Rattle.mlir_meaning.specs.Renaming.{renamed_func, reused_after}
use Rattle.mlir_meaning.specs.Names.{DoesNotName, OpsReadOnly, NamesOnly, IsInjectiveOn, SameOn, AlikeOn, AlikeThrough}
use Rattle.mlir_meaning.specs.Replacement.{AroundReadsOnly, AfterReadsOnly, AfterDefinesOnly, StandsAlone}

-- running operations and then others is running both
abbrev pub RunsInTurn : Type 0
RunsInTurn = (xs ys : List Op) (s : State) → run (xs ++ ys) s ≡ then_goes (run xs s) (run ys)

-- operations run alike in states that agree on what they read
abbrev pub RunsAlike : Type 0
RunsAlike = (N : ℕ → Bool) (os : List Op) (s t : State) → OpsReadOnly N os → SameOn N s t → AlikeOn N (run os s) (run os t)

-- every value but v
abbrev pub all_but : ValueId → ℕ → Bool
all_but v w = not (w == v.0)

-- and so in states that differ at a value that they don't use
abbrev pub RunsAlikeUnused : Type 0
RunsAlikeUnused = (v : ValueId) (os : List Op) (s t : State) → uses_op v os ≡ 0 → SameOn (all_but v) s t → AlikeOn (all_but v) (run os s) (run os t)

-- operations change no value but their results
abbrev pub RunsKeepOthers : Type 0
RunsKeepOthers = (v : ℕ) (os : List Op) (s t : State) →
    Each (λ o. DoesNotName v (names_of o.results)) os → run os s ≡ Goes t → t.values v ≡ s.values v

-- other numbers for operations and values change no meaning, where different values keep different numbers
abbrev pub RenamingKeepsMeaning : Type 0
RenamingKeepsMeaning = (N : ℕ → Bool) (ids f : ℕ → ℕ) (func : FuncShape) (inputs : List TensorShape) →
    NamesOnly N func → IsInjectiveOn N f → meaning (renamed_func ids f func) inputs ≡ meaning func inputs

-- where operations run alike in each state that comes to their place, what is around them runs alike
abbrev pub PlaceRunsAlike : Type 0
PlaceRunsAlike = (N : ℕ → Bool) (k : Context) (old new : List Op) (s t : State) →
    AroundReadsOnly N k → SameOn N s t →
    ((u v : State) → Reaches k old s u → SameOn N u v → AlikeOn N (run old u) (run new v)) →
    AlikeOn N (run (plug k old) s) (run (plug k new) t)

-- and so the functions around them have the same meaning
abbrev pub ContextKeepsMeaning : Type 0
ContextKeepsMeaning = (N : ℕ → Bool) (k : Context) (old new : List Op) (func : FuncShape) (inputs : List TensorShape) →
    AroundReadsOnly N k →
    ((u v : State) → Reaches k old (initial_state func.params inputs) u → SameOn N u v → AlikeOn N (run old u) (run new v)) →
    meaning (func_at func k new) inputs ≡ meaning (func_at func k old) inputs

-- the same where the later uses of their results are renamed
abbrev pub ReplacementKeepsMeaning : Type 0
ReplacementKeepsMeaning = (N : ℕ → Bool) (f : ℕ → ℕ) (k : Context) (old new : List Op) (func : FuncShape) (inputs : List TensorShape) →
    AroundReadsOnly N k → AfterDefinesOnly (StandsAlone N f) k →
    ((u v : State) → Reaches k old (initial_state func.params inputs) u → SameOn N u v → AlikeThrough N f (run old u) (run new v)) →
    meaning (func_at func (reused_after f k) new) inputs ≡ meaning (func_at func k old) inputs

-- both runs come to the place in one state, so the new operations are compared with the old ones there alone
abbrev pub OneStateReplacement : Type 0
OneStateReplacement = (N : ℕ → Bool) (f : ℕ → ℕ) (k : Context) (old new : List Op) (func : FuncShape) (inputs : List TensorShape) →
    AfterReadsOnly N k → AfterDefinesOnly (StandsAlone N f) k →
    ((u : State) → Reaches k old (initial_state func.params inputs) u → AlikeThrough N f (run old u) (run new u)) →
    meaning (func_at func (reused_after f k) new) inputs ≡ meaning (func_at func k old) inputs

-- operations that run as others do in each state that comes to their place may stand there
abbrev pub InPlaceKeepsMeaning : Type 0
InPlaceKeepsMeaning = (k : Context) (old new : List Op) (func : FuncShape) (inputs : List TensorShape) →
    ((u : State) → Reaches k old (initial_state func.params inputs) u → run new u ≡ run old u) →
    meaning (func_at func k new) inputs ≡ meaning (func_at func k old) inputs

-- an operation that does no more than to define values which nothing around it reads may go
abbrev pub RemovalKeepsMeaning : Type 0
RemovalKeepsMeaning = (N : ℕ → Bool) (k : Context) (o : Op) (func : FuncShape) (inputs : List TensorShape) →
    Each (λ (v : ValueId). N v.0 ≡ false) (names_of o.results) → AroundReadsOnly N k →
    ((u : State) → Reaches k (o ∷ []) (initial_state func.params inputs) u → (ds : List Datum) × (run (o ∷ []) u ≡ defines o.results u ds)) →
    meaning (func_at func k []) inputs ≡ meaning (func_at func k (o ∷ [])) inputs

-- NAMED OPERATIONS
abbrev pub FillIsGeneric : Type 0
FillIsGeneric = (value outs : ValueId) (rs : List (ValueId × Ty)) (s : State) →
    let out = s.values outs.0 in
    kind_meaning (Fill value outs) rs s ≡ kind_meaning (generic_of (fill_form (width_of out) (rank_of out)) (value ∷ []) outs) rs s

abbrev pub MatmulIsGeneric : Type 0
MatmulIsGeneric = (a b outs : ValueId) (rs : List (ValueId × Ty)) (s : State) →
    let form = matmul_form (width_of (s.values a.0)) (width_of (s.values outs.0)) in
    kind_meaning (Matmul a b outs) rs s ≡ kind_meaning (generic_of form (a ∷ b ∷ []) outs) rs s

abbrev pub BatchMatmulIsGeneric : Type 0
BatchMatmulIsGeneric = (a b outs : ValueId) (rs : List (ValueId × Ty)) (s : State) →
    let form = batch_matmul_form (width_of (s.values a.0)) (width_of (s.values outs.0)) in
    kind_meaning (BatchMatmul a b outs) rs s ≡ kind_meaning (generic_of form (a ∷ b ∷ []) outs) rs s

abbrev pub TransposeIsGeneric : Type 0
TransposeIsGeneric = (source outs : ValueId) (order : List ℕ) (rs : List (ValueId × Ty)) (s : State) →
    let form = transpose_form (width_of (s.values outs.0)) order in
    kind_meaning (Transpose source outs order) rs s ≡ kind_meaning (generic_of form (source ∷ []) outs) rs s

abbrev pub BroadcastIsGeneric : Type 0
BroadcastIsGeneric = (source outs : ValueId) (added : List ℕ) (rs : List (ValueId × Ty)) (s : State) →
    let out = s.values outs.0 in
    kind_meaning (Broadcast source outs added) rs s ≡ kind_meaning (generic_of (broadcast_form (width_of out) (rank_of out) added) (source ∷ []) outs) rs s

-- GRIDS
abbrev pub ReadsTable : Type 0
ReadsTable = (es p : List ℕ) (f : List ℕ → ℕ) → InBox es p → at (tabulate es f) p ≡ f p

-- at a point outside its box a grid reads no cell
abbrev pub ReadsNoneOutside : Type 0
ReadsNoneOutside = (g : Grid) (p : List ℕ) → (InBox g.extents p → ⊥) → at g p ≡ outside

-- a grid with one cell for each point is the table of its elements
abbrev pub IsItsTable : Type 0
IsItsTable = (g : Grid) → IsFull g → tabulate g.extents (at g) ≡ g

abbrev pub PointsLieInBox : Type 0
PointsLieInBox = (es : List ℕ) → Each (InBox es) (points es)

abbrev pub PointsStandAtTheirPlaces : Type 0
PointsStandAtTheirPlaces = (es p : List ℕ) → InBox es p → slice_index_or (points es) (place es p) [] ≡ p

-- the places of the points, in order, are the numbers below the volume
abbrev pub PlacesCountUp : Type 0
PlacesCountUp = (es : List ℕ) → map (place es) (points es) ≡ count_up 0 (volume es)

abbrev pub SlicesCompose : Type 0
SlicesCompose = (g : Grid) (os ns os' ns' : List ℕ) → Fits ns os' ns' → slice_of (slice_of g os ns) os' ns' ≡ slice_of g (plus os' os) ns'

abbrev pub ReadsInsertionInside : Type 0
ReadsInsertionInside = (tile : Grid) (os : List ℕ) (g : Grid) (p : List ℕ) →
    InBox g.extents p → lies_in os tile.extents p ≡ true → at (insert_into tile os g) p ≡ at tile (minus p os)

abbrev pub ReadsInsertionOutside : Type 0
ReadsInsertionOutside = (tile : Grid) (os : List ℕ) (g : Grid) (p : List ℕ) →
    InBox g.extents p → lies_in os tile.extents p ≡ false → at (insert_into tile os g) p ≡ at g p

-- a slice at the region of an insertion is what was inserted
abbrev pub SlicesInsertion : Type 0
SlicesInsertion = (tile : Grid) (os : List ℕ) (g : Grid) →
    Fits g.extents os tile.extents → IsFull tile → slice_of (insert_into tile os g) os tile.extents ≡ tile

-- insertions at regions without a common point may change places
abbrev pub DisjointInsertionsSwap : Type 0
DisjointInsertionsSwap = (a : Grid) (os : List ℕ) (b : Grid) (os' : List ℕ) (g : Grid) →
    ((p : List ℕ) → InBox g.extents p → (lies_in os a.extents p && lies_in os' b.extents p) ≡ false) →
    insert_into a os (insert_into b os' g) ≡ insert_into b os' (insert_into a os g)
