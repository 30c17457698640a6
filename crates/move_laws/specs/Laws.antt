-- The laws. Each is the contract of a function in `src/laws.rt`.
use Rattle.std.specs.Prelude.{Option, None, ◌≡◌, ℕ, ◌&&◌, false, List, [], ◌∷◌, length, Some, option_map}
use Rattle.mlir_ir.specs.declared.tree.Idx.{Idx}
use Rattle.mlir_ir.specs.declared.tree.Iter.{Iter}
use Rattle.mlir_ir.specs.declared.tree.Op.{Op}
use Rattle.mlir_ir.specs.declared.tree.OpId.{OpId}
use Rattle.mlir_ir.specs.declared.tree.OpKind.{OpKind, ExtractSlice, Generic, Unpack}
use Rattle.mlir_ir.specs.declared.tree.Ty.{Ty}
use Rattle.mlir_ir.specs.declared.tree.ValueId.{ValueId}
use Rattle.mlir_meaning.specs.Meaning.{run, values_in, places_in, captured_in}
use Rattle.mlir_meaning.specs.States.{State, Outcome, Goes, Fails}
use Rattle.mlir_meaning.specs.declared.answer.Fault.TheVariants.{Division}
use Rattle.mlir_meaning.specs.declared.values.Grid.{Grid}
use Rattle.mlir_meaning.specs.declared.values.Datum.{Datum}
use Rattle.mlir_meaning.specs.declared.values.Datum.TheVariants.{Cells}
use Rattle.mlir_meaning.specs.Grids.{plus, lies_in, InBox, Fits, IsFull}
use Rattle.mlir_meaning.specs.Moves.{slice_of, insert_into, pad_of, pack_of, unpack_of}
use Rattle.region_laws.specs.Bodies.{after}
use Rattle.region_laws.specs.Operands.{maps_of}
use Rattle.point_laws.specs.Boxes.{Grows, zeros}
use Rattle.move_laws.specs.Operands.{Moved, before}
use Rattle.move_laws.specs.Pads.{IsPaddedTo, padded, unpadded}
use Rattle.move_laws.specs.Packs.{IsPackedBy, packed, packed_box, cut_axes, cut_sizes, output_tiles, unpacked}
use Rattle.region_laws.specs.Instances.{Instance, result_of}

-- SLICES AND INSERTIONS
-- a slice inserted at its own place changes nothing
abbrev pub InsertsOwnSlice : Type 0
InsertsOwnSlice = (g : Grid) (os ns : List ℕ) → IsFull g → Fits g.extents os ns →
    insert_into (slice_of g os ns) os g ≡ g

-- a slice without a point in common with an insertion is the destination's
abbrev pub SlicesElsewhere : Type 0
SlicesElsewhere = (t : Grid) (os : List ℕ) (g : Grid) (os' ns' : List ℕ) → Fits g.extents os' ns' →
    ((p : List ℕ) → InBox g.extents p → (lies_in os t.extents p && lies_in os' ns' p) ≡ false) →
    slice_of (insert_into t os g) os' ns' ≡ slice_of g os' ns'

-- PADS
-- a pad, sliced back, is its source
abbrev pub SlicesPad : Type 0
SlicesPad = (g : Grid) (hs : List ℕ) (v : ℕ) → IsFull g → Grows g.extents (plus g.extents hs) →
    slice_of (pad_of g hs v) (zeros g.extents) g.extents ≡ g

-- the generic over padded operands, sliced back, is the generic
abbrev pub PaddedIsGeneric : Type 0
PaddedIsGeneric = (m : Moved) (box' : List ℕ) (value : ℕ) → IsPaddedTo m box' value →
    option_map (unpadded m.old.extents) (result_of (padded m box')) ≡ result_of (before m)

-- and where the output isn't padded, it is the generic as it stands
abbrev pub PaddedInputsAreGeneric : Type 0
PaddedInputsAreGeneric = (m : Moved) (box' : List ℕ) (value : ℕ) → IsPaddedTo m box' value →
    m.new.extents ≡ m.old.extents →
    result_of (padded m box') ≡ result_of (before m)

-- PACKS
-- an unpack of a pack is its source
abbrev pub UnpacksPack : Type 0
UnpacksPack = (g : Grid) (ts : List ℕ) (v : ℕ) → IsFull g → length ts ≡ length g.extents →
    unpack_of (pack_of g (packed_box g.extents ts) (cut_axes ts) (cut_sizes ts) v) g.extents (cut_axes ts)
    (cut_sizes ts) ≡ g

-- the generic over packed operands, unpacked into the old output, is the generic
abbrev pub PackedIsGeneric : Type 0
PackedIsGeneric = (m : Moved) (ts : List ℕ) → IsPackedBy m ts →
    option_map (unpacked m.old.extents (output_tiles ts m.ds) m.width) (result_of (packed m ts)) ≡ result_of (before m)

-- and where no axis of the output is packed, it is the generic as it stands
abbrev pub PackedInputsAreGeneric : Type 0
PackedInputsAreGeneric = (m : Moved) (ts : List ℕ) → IsPackedBy m ts → cut_sizes (output_tiles ts m.ds) ≡ [] →
    result_of (packed m ts) ≡ result_of (before m)

-- IN A STATE
-- what a result that is moved on leaves behind; None is the trap
abbrev pub moved_on : State → ValueId → ValueId → (Datum → Datum) → Option Datum → Outcome
moved_on s r v F None = Fails Division
moved_on s r v F (Some d) = Goes (after (after s r d) v (F d))

-- two operations end with what a result was, moved
abbrev pub EndsWith : State → List Op → ValueId → ValueId → (Datum → Datum) → Option Datum → Type 0
EndsWith s ops r v F old = (x : Option Datum) × (run ops s ≡ moved_on s r v F x) × (option_map F x ≡ old)

-- the new operation, whose operands hold in the state what the instance says, and the one that moves its result back
pub record Pair : Type 0 where
  pub id : OpId
  pub result : ValueId
  pub ty : Ty
  pub iterators : List Iter
  pub ins : List ValueId
  pub outs : ValueId
  pub names : List ValueId
  pub back_id : OpId
  pub back : ValueId
  pub back_ty : Ty

abbrev pub pair_ops : Pair → Instance → OpKind → List Op
pair_ops n g kind =
    record {
      id = n.id;
      results = (n.result, n.ty) ∷ [];
      kind = Generic
          (maps_of g.maps g.box g.ds) n.iterators n.ins n.outs n.names g.payload;
    }
    ∷ record { id = n.back_id; results = (n.back, n.back_ty) ∷ []; kind = kind } ∷ []

pub record HoldsInstance (s : State) (n : Pair) (g : Instance) : Type 0 where
  pub rank : length n.iterators ≡ length g.box
  pub ins : values_in s.values n.ins ≡ g.ins
  pub outs : s.values n.outs.0 ≡ Cells g.width g.out
  pub captured : captured_in s.values n.names ≡ g.captured

-- the generic on padded operands and the slice at 0 with the old sizes
abbrev pub PaddedRunsAsGeneric : Type 0
PaddedRunsAsGeneric = (m : Moved) (box' : List ℕ) (value : ℕ) → IsPaddedTo m box' value →
    (s : State) (n : Pair) → HoldsInstance s n (padded m box') → (offsets sizes : List Idx) →
    ((d : Datum) → (places_in (after s n.result d).values offsets ≡ zeros m.old.extents)
    × (places_in (after s n.result d).values sizes ≡ m.old.extents)) →
    EndsWith s (pair_ops n (padded m box') (ExtractSlice n.result offsets sizes)) n.result n.back
    (unpadded m.old.extents) (result_of (before m))

-- the generic on packed operands and the unpack into the old output
abbrev pub PackedRunsAsGeneric : Type 0
PackedRunsAsGeneric = (m : Moved) (ts : List ℕ) → IsPackedBy m ts →
    (s : State) (n : Pair) → HoldsInstance s n (packed m ts) → (old_outs : ValueId) →
    ((d : Datum) → (after s n.result d).values old_outs.0 ≡ Cells m.width m.old) →
    let back = output_tiles ts m.ds in
    EndsWith s (pair_ops n (packed m ts) (Unpack n.result old_outs (cut_axes back) (cut_sizes back))) n.result n.back
    (unpacked m.old.extents back m.width)
    (result_of (before m))
