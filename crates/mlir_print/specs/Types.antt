-- Types as they are written (MLIR Builtin dialect, "RankedTensorType", "VectorType" and "IntegerType").
use Rattle.std.specs.Prelude.{ℕ, List, [], ◌∷◌, ◌++◌, codes, decimal}
use Rattle.mlir_base.specs.declared.types.ElemTy.{ElemTy}
use Rattle.mlir_base.specs.declared.types.ElemTy.TheVariants.{Int, Index}
use Rattle.text_format.specs.declared.front.Kind.{Kind}
use Rattle.text_format.specs.declared.front.Kind.TheVariants.{Word, Shaped}
use Rattle.mlir_ir.specs.declared.tree.Ty.{Ty}
use Rattle.mlir_ir.specs.declared.tree.Ty.TheVariants.{Scalar, Tensor, Vector}
use Rattle.mlir_ir.specs.declared.tree.Extent.{Extent}
use Rattle.mlir_ir.specs.declared.tree.Extent.TheVariants as extents

abbrev pub elem_text : ElemTy → List ℕ
elem_text (Int w) = codes "i" ++ decimal w
elem_text Index = codes "index"

abbrev pub extents_text : List Extent → List ℕ
extents_text [] = []
extents_text (extents.Fixed n ∷ es) = decimal n ++ (codes "x" ++ extents_text es)
extents_text (extents.Any ∷ es) = codes "?x" ++ extents_text es

abbrev pub lanes_text : List ℕ → List ℕ
lanes_text [] = []
lanes_text (n ∷ ns) = decimal n ++ (codes "x" ++ lanes_text ns)

-- what a type is as a token: a word, or a shaped type
abbrev pub type_kind : Ty → Kind
type_kind (Scalar e) = Word
type_kind (Tensor es w) = Shaped
type_kind (Vector ns w) = Shaped

abbrev pub ty_text : Ty → List ℕ
ty_text (Scalar e) = elem_text e
ty_text (Tensor es w) = codes "tensor<" ++ (extents_text es ++ (elem_text (Int w) ++ codes ">"))
ty_text (Vector ns w) = codes "vector<" ++ (lanes_text ns ++ (elem_text (Int w) ++ codes ">"))
