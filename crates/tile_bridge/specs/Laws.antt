-- The laws. Each is the contract of a function in `src/laws.rt`.
use Rattle.std.specs.Prelude.{◌≡◌, ℕ, ◌<◌, Bool, true, List, ◌∷◌, map, Some, slice_index, slice_index_or, length}
use Rattle.mlir_ir.specs.Shape.{FuncShape, TensorShape}
use Rattle.mlir_ir.specs.declared.tree.Iter.TheVariants.{Parallel}
use Rattle.mlir_ir.specs.declared.tree.Op.{Op}
use Rattle.mlir_ir.specs.declared.tree.Ty.{Ty}
use Rattle.mlir_meaning.specs.Contexts.{Context, plug, Reaches}
use Rattle.mlir_meaning.specs.Meaning.{initial_state, kind_meaning}
use Rattle.mlir_meaning.specs.States.{State, made}
use Rattle.mlir_verify.specs.Place.{type_among}
use Rattle.region_laws.specs.Instances.{IsTypedInstance, result_of}
use Rattle.payload_ops.specs.Payload.{IsPayload}
use Rattle.mlir_meaning.specs.Grids.{Fits}
use Rattle.region_laws.specs.Operands.{CutsOutput, IsMoved}
use Rattle.region_laws.specs.Shifts.{Offset, IsOffset, tile_payload, tile_captured}
use Rattle.verified_runs.specs.Forms.{Structured, structured_of}
use Rattle.verified_runs.specs.Passes.{Scope, OpPasses, FuncPasses, scope_in}
use Rattle.verified_runs.specs.Typed.{AreTyped, AreOf, types_of}
use Rattle.tile_bridge.specs.Instances.{IsInstance, instance_of, is_parallel}

-- a structured operation in a state: its generic is an instance, whose result it means
abbrev pub IsInstanceOf : Op → Structured → State → Type 0
IsInstanceOf o g u = IsInstance g u × (kind_meaning o.kind o.results u ≡ made o.results u (result_of (instance_of g u)))

-- a structured operation at which no rule fails is so in each typed state: its operands fit its box
abbrev pub OperandsFitBox : Type 0
OperandsFitBox = (scope : Scope) (wanted : List Ty) (o : Op) (g : Structured) → OpPasses scope wanted o →
    structured_of (type_among scope) o.kind ≡ Some g → (u : State) → AreTyped (type_among scope) u → IsInstanceOf o g u

-- and so in each state in which a run of a verified function comes to it, at any place
abbrev pub RunsReachInstances : Type 0
RunsReachInstances = (f : FuncShape) (k : Context) (o : Op) (os : List Op) (g : Structured) (inputs : List TensorShape)
    (u : State) → FuncPasses f → f.body ≡ plug k (o ∷ os) →
    structured_of (type_among (scope_in f.params k)) o.kind ≡ Some g → AreOf (types_of f.params) inputs →
    Reaches k (o ∷ os) (initial_state f.params inputs) u → IsInstanceOf o g u

-- an instance has what the laws of tiles ask of a generic
abbrev pub InstancesAreTyped : Type 0
InstancesAreTyped = (g : Structured) (u : State) → IsInstance g u → IsTypedInstance (instance_of g u)

-- where parallel dimensions alone are cut, the output's alone are
abbrev pub ParallelCutsOutput : Type 0
ParallelCutsOutput = (g : Structured) (u : State) → IsInstance g u → (cut : ℕ → Bool) →
    ((d : ℕ) → d < length g.iterators → cut d ≡ true → is_parallel (slice_index_or g.iterators d Parallel) ≡ true) →
    CutsOutput cut (instance_of g u).box (instance_of g u).ds

-- the payload of a tile of an instance is one, and gives what the instance's gives at the point moved, where its
-- captured values are among c values and each offset is a number or one of them
abbrev pub TilesOfPayloads : Type 0
TilesOfPayloads = (g : Structured) (u : State) → IsInstance g u → (os ns outer : List ℕ) (c : ℕ) (f : ℕ → ℕ)
    (offsets : ℕ → Offset) → Fits (instance_of g u).box os ns →
    ((k : ℕ) → k < length (instance_of g u).captured →
    (f k < c) × (slice_index outer (f k) ≡ slice_index (instance_of g u).captured k)) →
    ((d : ℕ) → d < length (instance_of g u).box → IsOffset c outer (slice_index os d) (offsets d)) →
    IsPayload (tile_payload offsets c f g.payload)
    × IsMoved os ns g.payload (instance_of g u).captured (tile_payload offsets c f g.payload)
    (map (slice_index outer) (tile_captured offsets c f g.payload))
