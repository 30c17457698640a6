-- Operations that define new values before the tiled operation, and the slices of its operands.
use Rattle.std.specs.Prelude.{length, ◌≡◌, ℕ, Bool, true, false, List, [], ◌∷◌, ◌++◌, Option, Some, None, ⊤}
use Rattle.affine_maps.specs.Shape.{MapShape}
use Rattle.mlir_ir.specs.declared.tree.Op.{Op}
use Rattle.mlir_ir.specs.declared.tree.OpId.{OpId}
use Rattle.mlir_ir.specs.declared.tree.OpKind.{OpKind, ExtractSlice, Generic, InsertSlice, ParallelInsert}
use Rattle.mlir_ir.specs.declared.tree.Ty.{Ty}
use Rattle.mlir_ir.specs.declared.tree.ValueId.{ValueId}
use Rattle.mlir_ir.specs.declared.tree.Idx.{Idx}
use Rattle.mlir_ir.specs.declared.tree.Iter.{Iter}
use Rattle.payload_ops.specs.Shape.{PayloadShape}
use Rattle.mlir_meaning.specs.Names.{DoesNotName}
use Rattle.mlir_meaning.specs.Meaning.{kind_meaning, run, values_in, places_in, captured_in}
use Rattle.mlir_meaning.specs.States.{State, set}
use Rattle.mlir_meaning.specs.declared.values.Grid.{Grid}
use Rattle.mlir_meaning.specs.declared.values.Datum.{Datum}
use Rattle.mlir_meaning.specs.declared.values.Datum.TheVariants.{Cells}
use Rattle.region_laws.specs.Nests.{yield_of, Knows, with_value}
use Rattle.point_laws.specs.Tiles.{Cut}
use Rattle.region_laws.specs.Operands.{is_sliced, offsets_of, sizes_of, inner_maps, operand_tiles, maps_of, IsMoved}
use Rattle.point_laws.specs.Boxes.{picks}
use Rattle.region_laws.specs.Instances.{Instance, IsTypedInstance}

-- running them before the rest goes on in t, which has the values of the set
pub record Builds (N : ℕ → Bool) (s : State) (ops : List Op) (t : State) : Type 0 where
  pub runs : (rest : List Op) → run (ops ++ rest) s ≡ run rest t
  pub knows : Knows N s t
  pub shared : t.shared ≡ s.shared
  pub inserts : t.inserts ≡ s.inserts

-- the state after one more value
abbrev pub after : State → ValueId → Datum → State
after s v d = record { values = set s.values v.0 d; shared = s.shared; inserts = s.inserts }

-- an operand's slice
pub record Slice : Type 0 where
  pub id : OpId
  pub result : ValueId
  pub ty : Ty
  pub offsets : List Idx
  pub sizes : List Idx

abbrev pub slice_op : ValueId → Slice → Op
slice_op source c = record { id = c.id; results = (c.result, c.ty) ∷ []; kind = ExtractSlice source c.offsets c.sizes }

-- operands, each with its slice if it isn't used whole
abbrev pub slice_ops : List (ValueId × Option Slice) → List Op
slice_ops [] = []
slice_ops ((v, None) ∷ rest) = slice_ops rest
slice_ops ((v, Some c) ∷ rest) = slice_op v c ∷ slice_ops rest

abbrev pub slice_names : List (ValueId × Option Slice) → List ValueId
slice_names [] = []
slice_names ((v, None) ∷ rest) = v ∷ slice_names rest
slice_names ((v, Some c) ∷ rest) = c.result ∷ slice_names rest

-- in each state that has the values of the set, the slice has the offsets and the sizes of the operand's tile
abbrev pub IsSliceOf : (ℕ → Bool) → State → (ℕ → Bool) → List ℕ → List ℕ → MapShape → Datum → Option Slice → Type 0
IsSliceOf N s cut os ns m (Cells width g) None = is_sliced cut m.results ≡ false
IsSliceOf N s cut os ns m (Cells width g) (Some c) =
    (is_sliced cut m.results ≡ true) × ((t : State) → Knows N s t →
    places_in t.values c.offsets ≡ offsets_of cut os m.results)
    × ((t : State) → Knows N s t → places_in t.values c.sizes ≡ sizes_of cut ns m.results g.extents)
IsSliceOf N s cut os ns m _ None = ⊤
IsSliceOf N s cut os ns m _ (Some c) = ⊥

abbrev pub grown : (ℕ → Bool) → Option Slice → ℕ → Bool
grown N None = N
grown N (Some c) = with_value N c.result

abbrev pub IsNewSlice : (ℕ → Bool) → Option Slice → Type 0
IsNewSlice N None = ⊤
IsNewSlice N (Some c) = N c.result.0 ≡ false

-- the operands are there, and their slices are those of their tiles, with new names
abbrev pub AreSlicesOf : (ℕ → Bool) → State → (ℕ → Bool) → List ℕ → List ℕ → (ℕ → Bool) → List MapShape → List Datum →
    List (ValueId × Option Slice) → Type 0
AreSlicesOf N s cut os ns seen [] [] [] = ⊤
AreSlicesOf N s cut os ns seen (m ∷ ms) (x ∷ xs) (f ∷ fs) =
    (N f.0.0 ≡ true) × (s.values f.0.0 ≡ x) × IsSliceOf N s cut os ns m x f.1 × IsNewSlice seen f.1
    × AreSlicesOf N s cut os ns (grown seen f.1) ms xs fs
AreSlicesOf N s cut os ns seen _ _ _ = ⊥

-- THE SAME, ONE RECORD AN INPUT: its map, what it holds, its name, and its slice if it isn't used whole
pub record Input : Type 0 where
  pub axes : MapShape
  pub holds : Datum
  pub name : ValueId
  pub slice : Option Slice

abbrev pub IsInput : (ℕ → Bool) → State → (ℕ → Bool) → List ℕ → List ℕ → (ℕ → Bool) → Input → Type 0
IsInput N s cut os ns seen i = (N i.name.0 ≡ true) × (s.values i.name.0 ≡ i.holds)
    × IsSliceOf N s cut os ns i.axes i.holds i.slice × IsNewSlice seen i.slice

abbrev pub AreInputs : (ℕ → Bool) → State → (ℕ → Bool) → List ℕ → List ℕ → (ℕ → Bool) → List Input → Type 0
AreInputs N s cut os ns seen [] = ⊤
AreInputs N s cut os ns seen (i ∷ is) = IsInput N s cut os ns seen i × AreInputs N s cut os ns (grown seen i.slice) is

-- WHAT THE BODY OF A TILE HAS BEHIND ITS SIZES AND OFFSETS, for a region of the box at offsets os with sizes ns, which
-- cuts some dimensions: in t, where the values of M are known, the inputs' slices are those of their tiles, the
-- captured values are those of the tile's payload, and the tile's payload gives what the payload gives at the point
-- moved
pub record IsBody (M : ℕ → Bool) (t : State) (cut : ℕ → Bool) (os ns : List ℕ) (ms : List MapShape) (ins : List Datum)
    (captured : List ℕ) (payload : PayloadShape) (fs : List (ValueId × Option Slice)) (names : List ValueId)
    (captured' : List ℕ) (payload' : PayloadShape) : Type 0 where
  pub slices : AreSlicesOf M t cut os ns M ms ins fs
  pub captures : (u : State) → Knows M t u → captured_in u.values names ≡ captured'
  pub moves : IsMoved os ns payload captured payload' captured'

-- a slice of the output so far, with a new name
pub record IsOutputSlice (M : ℕ → Bool) (t : State) (os ns ds : List ℕ) (fs : List (ValueId × Option Slice))
    (c : Slice) : Type 0 where
  pub offsets : (u : State) → Knows M t u → places_in u.values c.offsets ≡ picks ds os
  pub sizes : (u : State) → Knows M t u → places_in u.values c.sizes ≡ picks ds ns
  pub new : M c.result.0 ≡ false
  pub other : DoesNotName c.result.0 (slice_names fs)

-- the tiled generic
abbrev pub tiled_kind : List ℕ → (ℕ → Bool) → List MapShape → List ℕ → List Iter → List (ValueId × Option Slice) →
    ValueId → List ValueId → PayloadShape → OpKind
tiled_kind box cut ms ds iterators fs outs names payload' =
    Generic (maps_of (inner_maps cut ms) box ds) iterators (slice_names fs) outs names payload'

-- a kind of operation that means, over the tiles, what the tiled generic means; such is the target's own kind
abbrev pub MeansTiled : List ℕ → (ℕ → Bool) → List ℕ → List ℕ → List MapShape → List ℕ → List Datum → ℕ → List Iter →
    List (ValueId × Option Slice) → List ValueId → PayloadShape → (ValueId → OpKind) → Type 0
MeansTiled box cut os ns ms ds ins width iterators fs names payload' kind =
    (u : State) (rs : List (ValueId × Ty)) (outs : ValueId) (x : Grid) →
    values_in u.values (slice_names fs) ≡ operand_tiles cut os ns ms ins → u.values outs.0 ≡ Cells width x →
    x.extents ≡ picks ds ns →
    kind_meaning (kind outs) rs u ≡ kind_meaning (tiled_kind box cut ms ds iterators fs outs names payload') rs u

-- A TILE'S BODY: the inputs, each with its slice if it isn't used whole, the kind of the tiled operation over its
-- output, the values that it captures, what these hold, and the tile's payload
pub record TileBody : Type 0 where
  pub inputs : List (ValueId × Option Slice)
  pub iterators : List Iter
  pub kind : ValueId → OpKind
  pub names : List ValueId
  pub captured : List ℕ
  pub payload : PayloadShape

-- the tiled operation, what inserts its result, and the end
pub record Names : Type 0 where
  pub id : OpId
  pub result : ValueId
  pub ty : Ty
  pub insertion : OpId
  pub inserted : ValueId
  pub inserted_ty : Ty
  pub end : OpId

abbrev pub tiled_op : TileBody → ValueId → Names → Op
tiled_op b outs n = record { id = n.id; results = (n.result, n.ty) ∷ []; kind = b.kind outs }

-- the slices of the inputs, a slice c of the output, and the tiled operation
abbrev pub tile_ops : TileBody → ValueId → Slice → Names → List Op
tile_ops b arg c n = slice_ops b.inputs ++ (slice_op arg c ∷ tiled_op b c.result n ∷ [])

abbrev pub insert_op : ValueId → Slice → Names → Op
insert_op arg c n = record {
  id = n.insertion;
  results = (n.inserted, n.inserted_ty)
      ∷ [];
  kind = InsertSlice n.result arg c.offsets c.sizes;
}

-- with a slice c of the carried tensor, its insertion and the yield
abbrev pub sliced_body : TileBody → ValueId → Slice → Names → List Op
sliced_body b arg c n =
    slice_ops b.inputs ++ (slice_op arg c ∷ tiled_op b c.result n ∷ insert_op arg c n ∷ yield_of n.end n.inserted ∷ [])

-- with the carried tensor whole
abbrev pub whole_body : TileBody → ValueId → Names → List Op
whole_body b arg n = slice_ops b.inputs ++ (tiled_op b arg n ∷ yield_of n.end n.result ∷ [])

-- with a slice c of the shared output and its insertion (SCF manual, "scf.forall"; Tensor manual,
-- "tensor.parallel_insert_slice")
abbrev pub noting_body : TileBody → ValueId → Slice → Names → List Op
noting_body b arg c n =
    slice_ops b.inputs ++ (slice_op arg c ∷ tiled_op b c.result n
    ∷ record { id = n.insertion; results = []; kind = ParallelInsert n.result arg c.offsets c.sizes } ∷ [])

-- in t, where the values of M are known, the body has what the tile of a region of the generic needs
pub record DoesTile (g : Instance) (cut : ℕ → Bool) (os ns : List ℕ) (M : ℕ → Bool) (t : State)
    (b : TileBody) : Type 0 where
  pub typed : IsTypedInstance g
  pub rank : length b.iterators ≡ length g.box
  pub within : Cut cut g.box os ns
  pub body : IsBody M t cut os ns g.maps g.ins g.captured g.payload b.inputs b.names b.captured b.payload
  pub means : MeansTiled g.box cut os ns g.maps g.ds g.ins g.width b.iterators b.inputs b.names b.payload b.kind

-- the carried tensor, or the shared output, is x, and c is its slice
pub record IsOutputOf (g : Instance) (os ns : List ℕ) (M : ℕ → Bool) (t : State) (b : TileBody) (arg : ValueId)
    (x : Grid) (c : Slice) : Type 0 where
  pub known : M arg.0 ≡ true
  pub holds : t.values arg.0 ≡ Cells g.width x
  pub slice : IsOutputSlice M t os ns g.ds b.inputs c
