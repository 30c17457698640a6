-- Vectors in place of a generic: reads, the payload lane by lane, reductions and the write. The lanes are the
-- points of a box that holds the operation's box at 0.
use Rattle.std.specs.Prelude.{◌≡◌, ℕ, suc, ◌<◌, pos, Bool, true, List, [], ◌∷◌, ◌++◌, map, length, Option, Some, None, option_and_then, slice_index, slice_index_or, if◌then◌else◌, ⊤}
use Rattle.affine_maps.specs.Map.{dimension}
use Rattle.affine_maps.specs.Shape.{MapShape}
use Rattle.affine_maps.specs.declared.map.Expr.{Expr}
use Rattle.mlir_base.specs.Types.{bits_of}
use Rattle.payload_ops.specs.Shape.{PayloadShape}
use Rattle.payload_ops.specs.Values.{Given, arg_bits}
use Rattle.payload_ops.specs.declared.step.Arg.{Arg}
use Rattle.payload_ops.specs.declared.step.Arg.TheVariants.{Input, Out, Step}
use Rattle.payload_ops.specs.declared.step.PayloadStep.{PayloadStep}
use Rattle.payload_ops.specs.declared.step.StepOp.{StepOp}
use Rattle.payload_ops.specs.declared.step.StepOp.TheVariants.{Const, Binary, Compare, Select, SignExtend, ZeroExtend, Truncate}
use Rattle.mlir_meaning.specs.Grids.{at, tabulate, is_inside, count_up, InBox, Each}
use Rattle.mlir_meaning.specs.declared.values.Grid.{Grid}
use Rattle.mlir_meaning.specs.declared.values.Datum.{Datum}
use Rattle.mlir_meaning.specs.declared.values.Datum.TheVariants.{Number, Bits, Cells}
use Rattle.mlir_meaning.specs.Points.{has, place_of, select_map}
use Rattle.mlir_meaning.specs.States.{width_of, element}
use Rattle.mlir_meaning.specs.Vectors.{mask_of, elementwise_result, read_of, write_of}
use Rattle.point_laws.specs.Boxes.{picks, zeros, Grows}
use Rattle.region_laws.specs.Instances.{Instance, IsTypedInstance}
use Rattle.point_laws.specs.Folds.{CannotTrap}

-- TRANSFERS
-- no dimension is named twice: each is found at its own place
abbrev pub IsOnce : List ℕ → Type 0
IsOnce rs = (k : ℕ) → k < length rs → place_of (slice_index rs k) 0 rs ≡ k

-- dimension d as an axis of a source whose map selects the dimensions rs; a 0, along which a read broadcasts, where
-- it selects it not
abbrev pub transfer_axis : List ℕ → ℕ → Expr
transfer_axis rs d = if has rs d then dimension (place_of d 0 rs) else record { constant = pos 0; terms = [] }

-- the map of a transfer whose vector has these dimensions, in order
abbrev pub transfer_map : List ℕ → List ℕ → MapShape
transfer_map dims rs = record { dims = length rs; results = map (transfer_axis rs) dims }

-- a mask of a tensor's extents, which may be left out where they are the lanes
abbrev pub IsMask : List ℕ → List ℕ → Option Datum → Type 0
IsMask extents lanes None = extents ≡ lanes
IsMask extents lanes (Some m) = m ≡ Cells 1 (mask_of extents lanes)

-- what a masked read has at a lane
abbrev pub lane_of : Grid → List ℕ → ℕ
lane_of g q = if is_inside g.extents q then at g q else 0

-- THE PAYLOAD LANE BY LANE
-- the vectors that a step takes, and the step as an operation on them
abbrev pub lane_args : StepOp → List Arg
lane_args (Binary op a b) = a ∷ b ∷ []
lane_args (Compare q a b) = a ∷ b ∷ []
lane_args (Select c a b) = c ∷ a ∷ b ∷ []
lane_args (SignExtend a) = a ∷ []
lane_args (ZeroExtend a) = a ∷ []
lane_args (Truncate a) = a ∷ []
lane_args _ = []

abbrev pub lane_op : StepOp → StepOp
lane_op (Binary op a b) = Binary op (Input 0) (Input 1)
lane_op (Compare q a b) = Compare q (Input 0) (Input 1)
lane_op (Select c a b) = Select (Input 0) (Input 1) (Input 2)
lane_op (SignExtend a) = SignExtend (Input 0)
lane_op (ZeroExtend a) = ZeroExtend (Input 0)
lane_op (Truncate a) = Truncate (Input 0)
lane_op op = op

-- the vector of an argument: those of the inputs, of the output, and of the earlier steps
abbrev pub lane_arg : List Datum → Datum → List Datum → Arg → Datum
lane_arg ins out done (Input k) = slice_index_or ins k (Bits 0)
lane_arg ins out done Out = out
lane_arg ins out done (Step k) = slice_index_or done k (Bits 0)

-- a constant becomes a splat
abbrev pub lane_step : (Arg → Datum) → List ℕ → ℕ → StepOp → Option Datum
lane_step vector lanes width (Const n) = Some (Cells width (tabulate lanes (λ p. n)))
lane_step vector lanes width op = elementwise_result (lane_op op) (map vector (lane_args op)) width lanes

-- the vectors of all steps
abbrev pub lane_steps : List Datum → Datum → List ℕ → List PayloadStep → List Datum → Option (List Datum)
lane_steps ins out lanes [] done = Some done
lane_steps ins out lanes (s ∷ rest) done =
    option_and_then (λ v. lane_steps ins out lanes rest (done ++ v ∷ []))
    (lane_step (lane_arg ins out done) lanes (bits_of s.ty) s.op)

-- the operation stands on vectors, and its arguments are such
abbrev pub OnLanes : (Arg → Type 0) → StepOp → Type 0
OnLanes P (Const n) = ⊤
OnLanes P (Binary op a b) = P a × P b
OnLanes P (Compare q a b) = P a × P b
OnLanes P (Select c a b) = P c × P a × P b
OnLanes P (SignExtend a) = P a
OnLanes P (ZeroExtend a) = P a
OnLanes P (Truncate a) = P a
OnLanes P _ = ⊥

-- an argument is an input that is read, the output if it is read, or an earlier step
abbrev pub IsHere : (ℕ → Bool) → Bool → ℕ → ℕ → Arg → Type 0
IsHere N o count n (Input k) = (N k ≡ true) × (k < count)
IsHere N o count n Out = o ≡ true
IsHere N o count n (Step k) = k < n

abbrev pub AreOnLanes : (ℕ → Bool) → Bool → ℕ → ℕ → List PayloadStep → Type 0
AreOnLanes N o count n [] = ⊤
AreOnLanes N o count n (s ∷ rest) = OnLanes (IsHere N o count n) s.op × AreOnLanes N o count (suc n) rest

-- a payload without steps of type `index`, which uses at most these inputs, and the output if it is read
pub record IsLanePayload (N : ℕ → Bool) (o : Bool) (payload : PayloadShape) : Type 0 where
  pub steps : AreOnLanes N o (length payload.ins) 0 payload.steps
  pub yielded : IsHere N o (length payload.ins) (length payload.steps) payload.yielded

-- the vectors that are read have the payload's types
pub record AreVectors (N : ℕ → Bool) (o : Bool) (payload : PayloadShape) (ins : List Datum) (out : Datum) : Type 0 where
  pub inputs : (k : ℕ) → N k ≡ true → k < length payload.ins →
      width_of (slice_index_or ins k (Bits 0)) ≡ arg_bits payload (Input k)
  pub output : o ≡ true → width_of out ≡ bits_of payload.out

-- what the payload is given at a lane
abbrev pub lane_given : List Datum → Datum → List ℕ → Given
lane_given ins out p = record { point = []; outer = []; ins = map (λ v. element v p) ins; out = element out p }

-- COORDINATES
-- those of the dimensions rs at a point whose coordinates are those of the dimensions dims
abbrev pub lane_picks : List ℕ → List ℕ → List ℕ → List ℕ
lane_picks dims rs p = map (λ r. slice_index p (place_of r 0 dims)) rs

-- each of the dimensions rs is among dims
abbrev pub AreAmong : List ℕ → List ℕ → Type 0
AreAmong dims rs = (k : ℕ) → k < length rs → has dims (slice_index rs k) ≡ true

-- an input of the operation: the dimensions that its map selects, what it holds, and its vector
pub record LaneInput : Type 0 where
  pub dims : List ℕ
  pub old : Datum
  pub vector : Datum

abbrev pub lane_maps : ℕ → List LaneInput → List MapShape
lane_maps n os = map (λ (i : LaneInput). select_map n i.dims) os

abbrev pub lane_olds : List LaneInput → List Datum
lane_olds os = map (λ (i : LaneInput). i.old) os

abbrev pub lane_vectors : List LaneInput → List Datum
lane_vectors os = map (λ (i : LaneInput). i.vector) os

-- what a verified state gives of a tensor whose map selects dimensions
pub record Selects (box rs : List ℕ) (g : Grid) : Type 0 where
  pub once : IsOnce rs
  pub below : Each (λ r. r < length box) rs
  pub extents : g.extents ≡ picks rs box

-- its vector over the dimensions dims of lanes vs: read at 0 with padding 0, under a mask of its extents
pub record ReadVector (vs dims rs : List ℕ) (g v : Grid) : Type 0 where
  pub offsets : List ℕ
  pub at_zero : offsets ≡ zeros rs
  pub mask : Option Datum
  pub is_mask : IsMask g.extents (picks rs vs) mask
  pub is : v ≡ read_of g offsets 0 mask (transfer_map dims rs) (picks dims vs)

-- an input's vector: a tensor's is read, and a scalar's is a splat
abbrev pub IsInputVector : List ℕ → List ℕ → List ℕ → Datum → Datum → Type 0
IsInputVector box vs rs (Cells width g) v = Selects box rs g × (w : Grid) × (v ≡ Cells width w)
    × ReadVector vs (count_up 0 (length box)) rs g w
IsInputVector box vs rs (Bits b) v = (width : ℕ) × (v ≡ Cells width (tabulate vs (λ p. b)))
IsInputVector box vs rs (Number n) v = ⊥

-- the inputs that are read have their vectors; `a` is the number of the first
abbrev pub AreInputVectors : List ℕ → List ℕ → (ℕ → Bool) → ℕ → List LaneInput → Type 0
AreInputVectors box vs N a [] = ⊤
AreInputVectors box vs N a (i ∷ os) = (N a ≡ true → IsInputVector box vs i.dims i.old i.vector)
    × AreInputVectors box vs N (suc a) os

-- the write of a vector over the dimensions dims into a tensor whose map selects the dimensions ds
pub record WriteBack (vs dims ds : List ℕ) (g v w : Grid) : Type 0 where
  pub offsets : List ℕ
  pub at_zero : offsets ≡ zeros ds
  pub mask : Option Datum
  pub is_mask : IsMask g.extents (picks ds vs) mask
  pub is : w ≡ write_of v offsets mask (transfer_map dims ds) g

-- a term where the lane lies in the box, and elsewhere a value that changes nothing
pub record IsChosen (box vs : List ℕ) (neutral : ℕ) (T S : Grid) : Type 0 where
  pub extents : S.extents ≡ vs
  pub reads : (p : List ℕ) → InBox vs p → at S p ≡ (if is_inside box p then at T p else neutral)

-- dimensions that are, each once, those which the output's map selects
pub record AreOutputs (n : ℕ) (ds par : List ℕ) : Type 0 where
  pub once : IsOnce par
  pub among : AreAmong par ds
  pub among_back : AreAmong ds par
  pub below : Each (λ d. d < n) par

-- A GENERIC ON VECTORS: its box, the extents of the vectors over all dimensions, its inputs, the dimensions that
-- the output's map selects, what the output holds, what it captures, and its payload
pub record OnVectors : Type 0 where
  pub box : List ℕ
  pub lanes : List ℕ
  pub inputs : List LaneInput
  pub ds : List ℕ
  pub width : ℕ
  pub out : Grid
  pub captured : List ℕ
  pub payload : PayloadShape

abbrev pub dimensions : OnVectors → List ℕ
dimensions g = count_up 0 (length g.box)

abbrev pub whole : OnVectors → Instance
whole g = record {
  box = g.box;
  maps = lane_maps (length g.box) g.inputs;
  ds = g.ds;
  ins = lane_olds g.inputs;
  width = g.width;
  out = g.out;
  captured = g.captured;
  payload = g.payload;
}

-- the lanes hold the box at 0, the inputs of N are read, and the payload can't trap
pub record IsVectorized (g : OnVectors) (N : ℕ → Bool) : Type 0 where
  pub grows : Grows g.box g.lanes
  pub selects : Selects g.box g.ds g.out
  pub typed : IsTypedInstance (whole g)
  pub cannot : CannotTrap g.payload
  pub inputs : AreInputVectors g.box g.lanes N 0 g.inputs

-- the output's vector over all dimensions
abbrev pub IsOutputVector : OnVectors → Datum → Type 0
IsOutputVector g vector = (x : Grid) × (vector ≡ Cells g.width x) × ReadVector g.lanes (dimensions g) g.ds g.out x
