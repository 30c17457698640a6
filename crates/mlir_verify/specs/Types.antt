-- V2: operands, results and attributes have the types and lengths of their operation (Linalg, "linalg.generic"; Tensor,
-- "tensor.empty"; Func, "func.return"; `Constants` and `Named` have the other operations).
use Rattle.std.specs.Prelude.{ℕ, ◌==◌, ◌&&◌, not, nat_lt, Bool, true, false, List, ◌∷◌, length, Option, Some}
use Rattle.std.specs.List.{list_all, zip}
use Rattle.mlir_base.specs.declared.types.ElemTy.{ElemTy}
use Rattle.mlir_base.specs.declared.types.ElemTy.TheVariants.{Int}
use Rattle.payload_ops.specs.declared.step.StepOp.{StepOp}
use Rattle.payload_ops.specs.declared.step.StepOp.TheVariants as S
use Rattle.payload_ops.specs.Payload.{payload_fits}
use Rattle.payload_ops.specs.Shape.{PayloadShape}
use Rattle.affine_maps.specs.Map.{map_fits}
use Rattle.affine_maps.specs.Shape.{MapShape}
use Rattle.mlir_ir.specs.declared.tree.Iter.{Iter}
use Rattle.mlir_ir.specs.declared.tree.OpKind.{OpKind, Constant, Empty, Generic, Fill, Matmul, BatchMatmul, Transpose, Broadcast, Return}
use Rattle.mlir_ir.specs.declared.tree.Ty.{Ty}
use Rattle.mlir_ir.specs.declared.tree.Ty.TheVariants.{Scalar, Tensor}
use Rattle.mlir_ir.specs.declared.tree.ValueId.{ValueId}
use Rattle.mlir_verify.specs.Place.{Place, Types, is_empty, type_of}
use Rattle.mlir_verify.specs.Tensors.{has_elements, is_alike, is_tensor, result_type}
use Rattle.mlir_verify.specs.Built.{is_built}
use Rattle.mlir_verify.specs.Constants.{Constants, constants_before, has_cells}
use Rattle.mlir_verify.specs.Named.{is_typed_fill, is_typed_product, is_typed_transpose, is_typed_broadcast}

-- a step that names a dimension or a captured value names one that is there
abbrev pub names_present : ℕ → ℕ → StepOp → Bool
names_present dims captured (S.Index d) = nat_lt d dims
names_present dims captured (S.Captured k) = nat_lt k captured
names_present dims captured _ = true

-- an operand for a payload's input of this type: a tensor with such elements, or such a scalar where it is a constant
abbrev pub is_input : Option Ty → Bool → ElemTy → Bool
is_input (Some (Tensor extents v)) constant (Int w) = v == w
is_input (Some (Scalar (Int v))) constant (Int w) = v == w && constant
is_input _ _ _ = false

-- the inputs fit the payload's inputs, the output is a tensor of its output, and its steps fit together
abbrev pub is_typed_payload : Types → Constants → ℕ → List ValueId → ValueId → List ValueId → PayloadShape → Bool
is_typed_payload t constants dims ins outs captured p =
    (length ins == length p.ins && list_all (λ x. is_input (t (x.0).0) (constants (x.0).0) x.1) (zip ins p.ins))
    && (has_elements (t outs.0) p.out && (list_all (λ s. names_present dims (length captured) s.op) p.steps && payload_fits p))

-- one map for each operand, whose terms name its dimensions; no captured values, since index values aren't built
abbrev pub is_typed_generic : Types → Constants → List MapShape → List Iter → List ValueId → ValueId → List ValueId → PayloadShape → Bool
is_typed_generic t constants maps iterators ins outs captured p =
    (length maps == length (outs ∷ ins) && (is_empty captured && list_all map_fits maps)) && is_typed_payload t constants (length iterators) ins outs captured p

abbrev pub is_typed_return : Types → List Ty → List (ValueId × Ty) → List ValueId → Bool
is_typed_return t wanted results values =
    (is_empty results && length values == length wanted) && list_all (λ x. is_alike (t (x.0).0) (Some x.1)) (zip values wanted)

-- the one result is like the output
abbrev pub gives_output : Types → List (ValueId × Ty) → ValueId → Bool
gives_output t results outs = is_alike (t outs.0) (result_type results)

-- a `tensor.empty` has no size, since no extent `?` is built
unfoldable pub is_typed : Types → Constants → List Ty → List (ValueId × Ty) → OpKind → Bool
is_typed t constants wanted results (Constant value) = has_cells (result_type results) value
is_typed t constants wanted results (Empty sizes) = is_empty sizes && is_tensor (result_type results)
is_typed t constants wanted results (Generic maps iterators ins outs captured p) =
    is_typed_generic t constants maps iterators ins outs captured p && gives_output t results outs
is_typed t constants wanted results (Fill value outs) = is_typed_fill t constants value outs && gives_output t results outs
is_typed t constants wanted results (Matmul a b outs) = is_typed_product 2 (t a.0) (t b.0) (t outs.0) && gives_output t results outs
is_typed t constants wanted results (BatchMatmul a b outs) = is_typed_product 3 (t a.0) (t b.0) (t outs.0) && gives_output t results outs
is_typed t constants wanted results (Transpose source outs order) = is_typed_transpose order (t source.0) (t outs.0) && gives_output t results outs
is_typed t constants wanted results (Broadcast source outs dims) = is_typed_broadcast dims (t source.0) (t outs.0) && gives_output t results outs
is_typed t constants wanted results (Return values) = is_typed_return t wanted results values
is_typed t constants wanted results _ = true

unfoldable pub breaks_types : Place → Bool
breaks_types p = not (is_built p.op && is_typed (type_of p) (constants_before p) p.func.results p.op.results p.op.kind)
