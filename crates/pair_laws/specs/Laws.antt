-- The laws. Each is the contract of a function in `src/laws.rt`.
use Rattle.std.specs.Prelude.{◌≡◌, ℕ, List, length, true, false, Ok, None, ◌<◌}
use Rattle.affine_maps.specs.Shape.{MapShape}
use Rattle.payload_ops.specs.Payload.{IsPayload}
use Rattle.mlir_ir.specs.Shape.{FuncShape, TensorShape}
use Rattle.mlir_ir.specs.declared.tree.Op.{Op}
use Rattle.mlir_meaning.specs.States.{State}
use Rattle.mlir_meaning.specs.Meaning.{meaning}
use Rattle.verified_runs.specs.Typed.{AreOf, types_of}
use Rattle.verified_runs.specs.Forms.{Structured}
use Rattle.fuse_laws.specs.Joined.{Fit}
use Rattle.mlir_base.specs.declared.types.ElemTy.TheVariants.{Int}
use Rattle.pair_laws.specs.Pairs.{joint_of, fused_op, Stands, fused_func, Produces}
use Rattle.pair_laws.specs.Captures.{CapturedMeet}
use Rattle.tile_bridge.specs.Instances.{IsInstance, instance_of, HasExtents}
use Rattle.point_laws.specs.Orders.{is_order}
use Rattle.pair_laws.specs.FuseAll.{fits, Pair, fused_of, first_pair, has_small_maps, fuse_pair, fuse_all}
use Rattle.payload_laws.specs.Known.{may_trap}
use Rattle.verified_runs.specs.Passes.{FuncPasses}
use Rattle.std.specs.Prelude.{slice_index_or, Some, ◌++◌, ◌∷◌, []}
use Rattle.mlir_meaning.specs.Meaning.{values_in}
use Rattle.region_laws.specs.Operands.{HasBox}
use Rattle.affine_maps.specs.Shape.{MapShape}
use Rattle.mlir_ir.specs.declared.tree.Extent.TheVariants.{Fixed}
use Rattle.mlir_verify.specs.Maps.{axes, extent_of}
use Rattle.mlir_verify.specs.Place.{Types}
use Rattle.mlir_meaning.specs.Grids.{Each}

-- its payload is one
abbrev pub FusedFits : Type 0
FusedFits = (p c : Structured) (k : ℕ) (m : MapShape) (ds : List ℕ) (dims caps width others w : ℕ) →
    Fit (joint_of p c k m ds) dims caps width others p.payload c.payload → c.payload.out ≡ Int w →
    IsPayload (fused_op p c k m ds).payload

-- fusing a pair that stands in a body keeps the meaning of the function
abbrev pub PairKeepsMeaning : Type 0
PairKeepsMeaning = (f : FuncShape) (before mid after : List Op) (po co : Op) (p c : Structured) (k : ℕ) (m : MapShape)
    (ds : List ℕ) →
    Stands f before mid after po co p c k m ds → (inputs : List TensorShape) → AreOf (types_of f.params) inputs →
    meaning (fused_func f before mid after co (fused_op p c k m ds)) inputs ≡ meaning f inputs

-- the captured values of two operations stand among those of both
abbrev pub AllCapturedMeet : Type 0
AllCapturedMeet = (p c : Structured) (u : State) → CapturedMeet p c u

-- a generic of a verified run whose output's map takes each dimension once is a producer
abbrev pub InstancesProduce : Type 0
InstancesProduce = (g : Structured) (u : State) → IsInstance g u →
    is_order (instance_of g u).ds (length (instance_of g u).box) ≡ true → Produces g (instance_of g u).ds u

-- no pair is left
abbrev pub FuseAllEnds : Type 0
FuseAllEnds = (f g : FuncShape) → fuse_all f ≡ Ok g → first_pair g ≡ None

-- in a function that passes the verifier the first pair is what the law of pairs asks
abbrev pub FirstPairStands : Type 0
FirstPairStands = (f : FuncShape) (x : Pair) → FuncPasses f → first_pair f ≡ Some x → may_trap x.p.payload ≡ false →
    Stands f x.before x.mid x.after x.producer x.consumer x.p x.c x.k x.m x.ds

-- so fusing it keeps the meaning
abbrev pub FirstPairKeepsMeaning : Type 0
FirstPairKeepsMeaning = (f : FuncShape) (x : Pair) → FuncPasses f → first_pair f ≡ Some x →
    may_trap x.p.payload ≡ false → (inputs : List TensorShape) → AreOf (types_of f.params) inputs →
    meaning (fuse_pair f x) inputs ≡ meaning f inputs

-- and gives a function that passes, where its maps are maps
abbrev pub FusedPairPasses : Type 0
FusedPairPasses = (f : FuncShape) (x : Pair) → FuncPasses f → first_pair f ≡ Some x →
    has_small_maps (fused_of x) ≡ true → FuncPasses (fuse_pair f x)

-- so a function that passes, fused until no pair is left, passes and means what it meant
abbrev pub FuseAllPasses : Type 0
FuseAllPasses = (f g : FuncShape) → FuncPasses f → fuse_all f ≡ Ok g → FuncPasses g

-- on all inputs of its parameters' types
abbrev pub FuseAllKeepsMeaning : Type 0
FuseAllKeepsMeaning = (f g : FuncShape) → FuncPasses f → fuse_all f ≡ Ok g →
    (inputs : List TensorShape) → AreOf (types_of f.params) inputs → meaning g inputs ≡ meaning f inputs

-- the test on types says that in each state the fused generic has the box of the consumer, whose extents its own axes
-- give
abbrev pub FitsKeepsBox : Type 0
FitsKeepsBox = (t : Types) (u : State) (c g : Structured) (ms : List MapShape) (o : MapShape) (box : List ℕ) →
    g.maps ≡ ms ++ o ∷ [] → length ms ≡ length g.ins → length g.iterators ≡ length box →
    Each (HasExtents t u) (g.ins ++ g.outs ∷ []) →
    ((d : ℕ) → d < length box → extent_of (axes t c.maps c.ins c.outs) d ≡ Some (Fixed (slice_index_or box d 0))) →
    fits t c g ≡ true → HasBox box g.maps (values_in u.values (g.ins ++ g.outs ∷ []))
