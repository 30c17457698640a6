-- A producer and its consumer in a body.
use Rattle.std.specs.Prelude.{◌≡◌, ℕ, true, false, List, [], ◌∷◌, ◌++◌, map, length, slice_get, slice_index_or, Option, Some, if◌then◌else◌}
use Rattle.affine_maps.specs.Shape.{MapShape}
use Rattle.affine_maps.specs.Compose.{composed}
use Rattle.payload_laws.specs.Known.{may_trap}
use Rattle.payload_ops.specs.Payload.{IsPayload}
use Rattle.mlir_ir.specs.Shape.{FuncShape}
use Rattle.mlir_ir.specs.declared.tree.Op.{Op}
use Rattle.mlir_ir.specs.declared.tree.Ty.{Ty}
use Rattle.mlir_ir.specs.declared.tree.ValueId.{ValueId}
use Rattle.mlir_meaning.specs.Points.{place_of}
use Rattle.mlir_meaning.specs.States.{State, width_of, grid_of}
use Rattle.mlir_meaning.specs.declared.values.Datum.{Datum}
use Rattle.mlir_meaning.specs.declared.values.Datum.TheVariants.{Cells}
use Rattle.mlir_meaning.specs.Structured.{generic_result}
use Rattle.mlir_meaning.specs.Meaning.{values_in, captured_in}
use Rattle.mlir_meaning.specs.Names.{OpsReadOnly}
use Rattle.mlir_meaning.specs.Laws.{all_but}
use Rattle.affine_maps.specs.Permutation.{is_among}
use Rattle.mlir_verify.specs.Place.{type_among}
use Rattle.verified_runs.specs.Typed.{AreTyped}
use Rattle.verified_runs.specs.Passes.{FuncPasses, scope_after}
use Rattle.verified_runs.specs.Forms.{Structured, kind_of}
use Rattle.point_laws.specs.Orders.{is_order}
use Rattle.region_laws.specs.Operands.{maps_of}
use Rattle.payload_forms.specs.Moved.{number_at}
use Rattle.payload_forms.specs.Joined.{spliced, Joint, producer_steps, consumer_steps, joined}
use Rattle.payload_forms.specs.Captured.{used, placed}
use Rattle.payload_ops.specs.Shape.{PayloadShape}
use Rattle.mlir_base.specs.declared.types.ElemTy.TheVariants.{Int}
use Rattle.payload_ops.specs.declared.step.PayloadStep.{PayloadStep}
use Rattle.fuse_laws.specs.Fused.{pulled, joint, Fuses}
use Rattle.region_laws.specs.Instances.{Instance, IsTypedInstance}
use Rattle.tile_bridge.specs.Instances.{input_maps}

-- CAPTURED VALUES: each once, in order of first use
abbrev pub numbers_of : List ValueId → List ℕ
numbers_of = map (λ (v : ValueId). v.0)

abbrev pub with_value : List ValueId → ValueId → List ValueId
with_value seen v = if is_among v.0 (numbers_of seen) then seen else seen ++ v ∷ []

abbrev pub once : List ValueId → List ValueId → List ValueId
once seen [] = seen
once seen (v ∷ vs) = once (with_value seen v) vs

abbrev pub captured_of : Structured → Structured → List ValueId
captured_of p c = once [] (p.captured ++ c.captured)

-- where the values of one of them stand among those of both
abbrev pub places_in : List ValueId → List ValueId → List ℕ
places_in all vs = map (λ (v : ValueId). place_of v.0 0 (numbers_of all)) vs

abbrev pub place_in : List ValueId → List ValueId → ℕ → ℕ
place_in all vs = number_at (places_in all vs)

-- THE FUSED OPERATION
-- the consumer's operand k with the map m is the producer's result, whose map takes dimensions ds
abbrev pub joint_of : Structured → Structured → ℕ → MapShape → List ℕ → Joint
joint_of p c k m ds = joint k ds m (length (captured_of p c)) (place_in (captured_of p c) p.captured)
    (place_in (captured_of p c) c.captured)

-- with a step for each captured value of both in front
abbrev pub raw_op : Structured → Structured → ℕ → MapShape → List ℕ → Structured
raw_op p c k m ds = record {
  maps = spliced k (map (λ i. composed i (pulled ds m)) (input_maps p)) c.maps;
  iterators = c.iterators;
  ins = spliced k p.ins c.ins;
  outs = c.outs;
  captured = captured_of p c;
  payload = joined (joint_of p c k m ds) p.payload c.payload;
}

-- the steps behind those
abbrev pub joined_rest : Joint → PayloadShape → PayloadShape → List PayloadStep
joined_rest j p c = producer_steps j p c ++ consumer_steps j p c

abbrev pub used_of : Structured → Structured → ℕ → MapShape → List ℕ → List ℕ
used_of p c k m ds = used (length (captured_of p c)) [] (joined_rest (joint_of p c k m ds) p.payload c.payload)

abbrev pub value_at_place : List ValueId → ℕ → ValueId
value_at_place vs i = slice_index_or vs i (record { 0 = 0 })

-- with those that are used, each right before its first use
abbrev pub fused_op : Structured → Structured → ℕ → MapShape → List ℕ → Structured
fused_op p c k m ds =
    let raw = raw_op p c k m ds in
    record {
      maps = raw.maps;
      iterators = raw.iterators;
      ins = raw.ins;
      outs = raw.outs;
      captured = map (value_at_place (captured_of p c)) (used_of p c k m ds);
      payload = placed (length (captured_of p c)) raw.payload.ins raw.payload.out
          (joined_rest (joint_of p c k m ds) p.payload c.payload) raw.payload.yielded;
    }

-- what an operation gives in a state
abbrev pub result_in : Structured → State → Option Datum
result_in g u = generic_result g.maps (length g.iterators) (values_in u.values g.ins) (u.values g.outs.0)
    (captured_in u.values g.captured) g.payload

-- and as a generic with a box
abbrev pub placed_in : Structured → List ℕ → List ℕ → State → Instance
placed_in g box ds u = record {
  box = box;
  maps = input_maps g;
  ds = ds;
  ins = values_in u.values g.ins;
  width = width_of (u.values g.outs.0);
  out = grid_of (u.values g.outs.0);
  captured = captured_in u.values g.captured;
  payload = g.payload;
}

pub record IsPlacedIn (g : Structured) (box ds : List ℕ) (u : State) : Type 0 where
  pub maps : g.maps ≡ maps_of (input_maps g) box ds
  pub dims : length g.iterators ≡ length box
  pub out : u.values g.outs.0 ≡ Cells (width_of (u.values g.outs.0)) (grid_of (u.values g.outs.0))

-- THE STEP
-- the producer in a state that comes to its place
pub record Produces (p : Structured) (ds : List ℕ) (u : State) : Type 0 where
  pub box : List ℕ
  pub placed : IsPlacedIn p box ds u
  pub typed : IsTypedInstance (placed_in p box ds u)
  pub order : is_order ds (length box) ≡ true

-- both, in a state that comes to the consumer's place
pub record Pairs (p c : Structured) (k : ℕ) (m : MapShape) (ds : List ℕ) (u : State) : Type 0 where
  pub p_box : List ℕ
  pub c_box : List ℕ
  pub c_ds : List ℕ
  pub p_placed : IsPlacedIn p p_box ds u
  pub c_placed : IsPlacedIn c c_box c_ds u
  pub elem : c.payload.out ≡ Int (width_of (u.values c.outs.0))
  pub fuses : Fuses (placed_in p p_box ds u) (placed_in c c_box c_ds u) k m (captured_in u.values (captured_of p c))
      (place_in (captured_of p c) p.captured) (place_in (captured_of p c) c.captured)

-- the body without the producer, and with the fused operation in the consumer's place
abbrev pub body_of : List Op → List Op → List Op → List Op
body_of before mid rest = before ++ (mid ++ rest)

-- the pair stands in the body of a function that passes the verifier; in each typed state it is typed so; nothing
-- else uses the producer's result, and its payload can't trap
pub record Stands (f : FuncShape) (before mid after : List Op) (po co : Op) (p c : Structured) (k : ℕ) (m : MapShape)
    (ds : List ℕ) : Type 0 where
  pub passes : FuncPasses f
  pub body : f.body ≡ before ++ (po ∷ (mid ++ (co ∷ after)))
  pub p_kind : po.kind ≡ kind_of p
  pub c_kind : co.kind ≡ kind_of c
  pub result : ValueId
  pub ty : Ty
  pub defines_it : po.results ≡ (result, ty) ∷ []
  pub operand : slice_get c.ins k ≡ Some result
  pub fits : IsPayload p.payload
  pub no_trap : may_trap p.payload ≡ false
  pub produces : (u : State) → AreTyped (type_among (scope_after f.params before)) u → Produces p ds u
  pub pairs : (u : State) → AreTyped (type_among (scope_after f.params (before ++ (po ∷ mid)))) u → Pairs p c k m ds u
  pub unused_before : OpsReadOnly (all_but result) before
  pub unused_after : OpsReadOnly (all_but result) (mid
      ++ (record { id = co.id; results = co.results; kind = kind_of (fused_op p c k m ds) } ∷ after))

abbrev pub fused_func : FuncShape → List Op → List Op → List Op → Op → Structured → FuncShape
fused_func f before mid after co g = record {
  name = f.name;
  params = f.params;
  results = f.results;
  body = before ++ (mid ++ (record { id = co.id; results = co.results; kind = kind_of g } ∷ after));
}
