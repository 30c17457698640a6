-- The bytes of operations, in the order in which they are written.
use Rattle.std.specs.Prelude.{ℕ, List, [], ◌∷◌, ◌++◌, codes}
use Rattle.mlir_base.specs.declared.types.ElemTy.{ElemTy}
use Rattle.payload_ops.specs.Shape.{PayloadShape}
use Rattle.affine_maps.specs.Shape.{MapShape}
use Rattle.mlir_ir.specs.declared.tree.Ty.{Ty}
use Rattle.mlir_ir.specs.declared.tree.Ty.TheVariants.{Scalar, Tensor, Vector}
use Rattle.mlir_ir.specs.declared.tree.Extent.{Extent}
use Rattle.mlir_ir.specs.declared.tree.ValueId.{ValueId}
use Rattle.mlir_ir.specs.declared.tree.Iter.{Iter}
use Rattle.mlir_ir.specs.declared.tree.OpKind.{OpKind}
use Rattle.mlir_ir.specs.declared.tree.OpKind.TheVariants as kinds
use Rattle.mlir_ir.specs.declared.tree.Op.{Op}
use Rattle.mlir_print.specs.declared.names.Given.TheVariants.{Result}
use Rattle.mlir_print.specs.Types.{ty_text}
use Rattle.mlir_print.specs.Names.{Names, given_text}
use Rattle.mlir_print.specs.Literals.{literal_text}
use Rattle.mlir_print.specs.Constants.{words_text, dense_words}
use Rattle.mlir_print.specs.Returns.{return_text}
use Rattle.text_format.specs.Writers.{unbuilt_text}
use Rattle.mlir_print.specs.GenericParts.{generic_text}
use Rattle.mlir_print.specs.StructuredParts.{fill_text, matmul_text, batch_matmul_text, transpose_text, broadcast_text}

abbrev pub empty_text : Ty → List ℕ
empty_text ty = codes "tensor.empty() : " ++ ty_text ty

abbrev pub empty_text_if : List ValueId → Ty → List ℕ
empty_text_if [] ty = empty_text ty
empty_text_if (v ∷ vs) ty = unbuilt_text

abbrev pub scalar_text_if : ElemTy → List ℕ → List ℕ
scalar_text_if e (v ∷ []) = codes "arith.constant " ++ literal_text e v
scalar_text_if e cells = unbuilt_text

unfoldable pub dense_text : List Extent → ℕ → List ℕ → List ℕ
dense_text es w cells = codes "arith.constant dense<" ++ (words_text (dense_words w es cells) ++ (codes "> : " ++ ty_text (Tensor es w)))

abbrev pub constant_text_if : Ty → List ℕ → List ℕ
constant_text_if (Scalar e) cells = scalar_text_if e cells
constant_text_if (Tensor es w) cells = dense_text es w cells
constant_text_if (Vector ns w) cells = unbuilt_text

abbrev pub generic_text_if : List ValueId → List (List ℕ) → Names → Ty → List MapShape → List Iter → List ValueId → ValueId → PayloadShape → List ℕ
generic_text_if [] ts n ty maps its ins out p = generic_text ts n ty maps its ins out p
generic_text_if (c ∷ cs) ts n ty maps its ins out p = unbuilt_text

unfoldable pub operation_text : List (List ℕ) → Names → Ty → OpKind → List ℕ
operation_text ts n ty (kinds.Constant cells) = constant_text_if ty cells
operation_text ts n ty (kinds.Empty sizes) = empty_text_if sizes ty
operation_text ts n ty (kinds.Generic maps its ins out captured p) = generic_text_if captured ts n ty maps its ins out p
operation_text ts n ty (kinds.Fill v out) = fill_text n.rows ty v out
operation_text ts n ty (kinds.Matmul a b out) = matmul_text n.rows ty a b out
operation_text ts n ty (kinds.BatchMatmul a b out) = batch_matmul_text n.rows ty a b out
operation_text ts n ty (kinds.Transpose a out order) = transpose_text n.rows a out order
operation_text ts n ty (kinds.Broadcast a out dims) = broadcast_text n.rows a out dims
operation_text ts n ty k = unbuilt_text

unfoldable pub defined_text : List (List ℕ) → Names → Ty → OpKind → List ℕ
defined_text ts n ty k = given_text (Result n.results) ++ (codes " = " ++ operation_text ts n ty k)

abbrev pub line_text_by : List (List ℕ) → Names → List (ValueId × Ty) → OpKind → List ℕ
line_text_by ts n [] k = return_text n.rows k
line_text_by ts n (r ∷ []) k = defined_text ts n r.1 k
line_text_by ts n (r ∷ (s ∷ rs)) k = unbuilt_text

unfoldable pub line_text : List (List ℕ) → Names → Op → List ℕ
line_text ts n o = line_text_by ts n o.results o.kind
