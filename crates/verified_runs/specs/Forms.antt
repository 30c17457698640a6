-- Structured operations, each as a generic; the widths and ranks are those of the types in scope.
use Rattle.std.specs.Prelude.{ℕ, Bool, true, false, List, [], ◌∷◌, Option, Some, None}
use Rattle.affine_maps.specs.Shape.{MapShape}
use Rattle.payload_ops.specs.Shape.{PayloadShape}
use Rattle.mlir_ir.specs.declared.tree.Iter.{Iter}
use Rattle.mlir_ir.specs.declared.tree.Ty.{Ty}
use Rattle.mlir_ir.specs.declared.tree.Ty.TheVariants.{Tensor}
use Rattle.mlir_ir.specs.declared.tree.ValueId.{ValueId}
use Rattle.mlir_ir.specs.declared.tree.OpKind.{OpKind, Generic, Fill, Matmul, BatchMatmul, Transpose, Broadcast}
use Rattle.mlir_meaning.specs.Structured.{Form, fill_form, matmul_form, batch_matmul_form, transpose_form, broadcast_form}
use Rattle.mlir_verify.specs.Place.{Types}
use Rattle.mlir_verify.specs.Tensors.{rank_of}

-- a generic without its results
pub record Structured : Type 0 where
  pub maps : List MapShape
  pub iterators : List Iter
  pub ins : List ValueId
  pub outs : ValueId
  pub captured : List ValueId
  pub payload : PayloadShape

abbrev pub kind_of : Structured → OpKind
kind_of g = Generic g.maps g.iterators g.ins g.outs g.captured g.payload

abbrev pub of_form : Form → List ValueId → ValueId → Structured
of_form f ins outs = record { maps = f.maps; iterators = f.iterators; ins = ins; outs = outs; captured = []; payload = f.payload }

-- the width of a tensor's elements
abbrev pub width_in : Option Ty → ℕ
width_in (Some (Tensor es w)) = w
width_in _ = 1

-- the generic that an operation is
unfoldable pub structured_of : Types → OpKind → Option Structured
structured_of t (Generic maps iterators ins outs captured payload) =
    Some (record { maps = maps; iterators = iterators; ins = ins; outs = outs; captured = captured; payload = payload })
structured_of t (Fill value outs) = Some (of_form (fill_form (width_in (t outs.0)) (rank_of (t outs.0))) (value ∷ []) outs)
structured_of t (Matmul a b outs) = Some (of_form (matmul_form (width_in (t a.0)) (width_in (t outs.0))) (a ∷ b ∷ []) outs)
structured_of t (BatchMatmul a b outs) = Some (of_form (batch_matmul_form (width_in (t a.0)) (width_in (t outs.0))) (a ∷ b ∷ []) outs)
structured_of t (Transpose source outs order) = Some (of_form (transpose_form (width_in (t outs.0)) order) (source ∷ []) outs)
structured_of t (Broadcast source outs dims) = Some (of_form (broadcast_form (width_in (t outs.0)) (rank_of (t outs.0)) dims) (source ∷ []) outs)
structured_of t kind = None

abbrev pub is_generic : OpKind → Bool
is_generic (Generic maps iterators ins outs captured payload) = true
is_generic _ = false
