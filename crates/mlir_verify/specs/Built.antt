-- What this verifier covers: constants of integers, tensors of fixed extents, structured operations, and `return`.
-- Anything else breaks V2, so that no module is called verified before all of its rules are tested.
use Rattle.std.specs.Prelude.{◌&&◌, Bool, true, false}
use Rattle.std.specs.List.{list_all}
use Rattle.mlir_base.specs.declared.types.ElemTy.{ElemTy}
use Rattle.mlir_base.specs.declared.types.ElemTy.TheVariants.{Int, Index}
use Rattle.mlir_ir.specs.declared.tree.Op.{Op}
use Rattle.mlir_ir.specs.declared.tree.OpKind.{OpKind, Constant, Empty, Generic, Fill, Matmul, BatchMatmul, Transpose, Broadcast, Return}
use Rattle.mlir_ir.specs.declared.tree.Ty.{Ty}
use Rattle.mlir_ir.specs.declared.tree.Ty.TheVariants.{Scalar, Tensor, Vector}
use Rattle.mlir_verify.specs.Tensors.{is_fixed}

abbrev pub is_integer : ElemTy → Bool
is_integer (Int w) = true
is_integer Index = false

abbrev pub is_built_type : Ty → Bool
is_built_type (Scalar e) = is_integer e
is_built_type (Tensor extents w) = list_all is_fixed extents
is_built_type (Vector extents w) = false

abbrev pub is_built_kind : OpKind → Bool
is_built_kind (Constant value) = true
is_built_kind (Empty sizes) = true
is_built_kind (Generic maps iterators ins outs captured payload) = true
is_built_kind (Fill value outs) = true
is_built_kind (Matmul a b outs) = true
is_built_kind (BatchMatmul a b outs) = true
is_built_kind (Transpose source outs order) = true
is_built_kind (Broadcast source outs dims) = true
is_built_kind (Return values) = true
is_built_kind _ = false

unfoldable pub is_built : Op → Bool
is_built o = is_built_kind o.kind && list_all (λ r. is_built_type r.1) o.results
