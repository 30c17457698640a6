-- A generic operation of a verified function as an instance in a state: what its operands hold there, and the box
-- that they give.
use Rattle.std.specs.Prelude.{◌≡◌, ℕ, ◌<◌, ◌^◌, Bool, true, false, List, [], ◌∷◌, ◌++◌, length, take, slice_index_or}
use Rattle.affine_maps.specs.Shape.{MapShape}
use Rattle.affine_maps.specs.Permutation.{repeats}
use Rattle.payload_ops.specs.Payload.{IsPayload}
use Rattle.payload_ops.specs.Values.{is_supplied}
use Rattle.payload_ops.specs.declared.step.PayloadStep.{PayloadStep}
use Rattle.mlir_base.specs.declared.types.ElemTy.TheVariants.{Int}
use Rattle.mlir_base.specs.Types.{bits_of}
use Rattle.mlir_ir.specs.declared.tree.Iter.{Iter}
use Rattle.mlir_ir.specs.declared.tree.Iter.TheVariants.{Parallel, Reduction}
use Rattle.mlir_ir.specs.declared.tree.Ty.{Ty}
use Rattle.mlir_ir.specs.declared.tree.ValueId.{ValueId}
use Rattle.mlir_meaning.specs.Grids.{IsFull, Each}
use Rattle.mlir_meaning.specs.Meaning.{kind_meaning, values_in, captured_in}
use Rattle.mlir_meaning.specs.Points.{has}
use Rattle.mlir_meaning.specs.States.{State, made, grid_of, width_of}
use Rattle.mlir_meaning.specs.Structured.{generic_box}
use Rattle.mlir_meaning.specs.declared.values.Datum.TheVariants.{Cells}
use Rattle.mlir_verify.specs.Maps.{output_map, output_dimensions}
use Rattle.region_laws.specs.Instances.{Instance, FitsItsBox, result_of}
use Rattle.region_laws.specs.Operands.{maps_of}
use Rattle.verified_runs.specs.Forms.{Structured, kind_of}
use Rattle.verified_runs.specs.Asks.{HaveElements}
use Rattle.mlir_verify.specs.Place.{Types}
use Rattle.mlir_verify.specs.Tensors.{extents_of}
use Rattle.verified_runs.specs.Typed.{IsSized}

-- a value has the extents of its type
abbrev pub HasExtents : Types → State → ValueId → Type 0
HasExtents t u v = IsSized (extents_of (t v.0)) (grid_of (u.values v.0)).extents

-- the last map is the output's
abbrev pub input_maps : Structured → List MapShape
input_maps g = take (length g.ins) g.maps

abbrev pub instance_of : Structured → State → Instance
instance_of g u = record {
  box = generic_box g.maps (length g.iterators) (values_in u.values g.ins ++ u.values g.outs.0 ∷ []);
  maps = input_maps g;
  ds = output_dimensions (output_map g.maps);
  ins = values_in u.values g.ins;
  width = width_of (u.values g.outs.0);
  out = grid_of (u.values g.outs.0);
  captured = captured_in u.values g.captured;
  payload = g.payload;
}

abbrev pub is_parallel : Iter → Bool
is_parallel Parallel = true
is_parallel Reduction = false

-- WHAT A VERIFIED GENERIC IS IN A STATE: its operands fit its box; it means the instance's result; the inputs and the
-- output are full, with elements of the payload's types; its payload is one, whose steps name dimensions and captured
-- values that are there; and its parallel dimensions are those of the output, each once
pub record IsInstance (g : Structured) (u : State) : Type 0 where
  pub fits : FitsItsBox (instance_of g u)
  pub rank : length g.iterators ≡ length (instance_of g u).box
  pub maps : g.maps ≡ maps_of (input_maps g) (instance_of g u).box (instance_of g u).ds
  pub output : u.values g.outs.0 ≡ Cells (instance_of g u).width (instance_of g u).out
  pub means : (rs : List (ValueId × Ty)) → kind_meaning (kind_of g) rs u ≡ made rs u (result_of (instance_of g u))
  pub inputs : HaveElements g.payload.ins (instance_of g u).ins
  pub full : IsFull (instance_of g u).out
  pub width : (instance_of g u).width ≡ bits_of g.payload.out
  pub below : Each (λ c. c < 2 ^ bits_of g.payload.out) (instance_of g u).out.cells
  pub payload : IsPayload g.payload
  pub element : (w : ℕ) × (g.payload.out ≡ Int w)
  pub supplied : Each (λ (s : PayloadStep).
      is_supplied (length (instance_of g u).box) (length (instance_of g u).captured) s.op ≡ true) g.payload.steps
  pub once : repeats (instance_of g u).ds ≡ false
  pub parallel : (d : ℕ) → d < length g.iterators → is_parallel (slice_index_or g.iterators d Parallel)
      ≡ has (instance_of g u).ds d
