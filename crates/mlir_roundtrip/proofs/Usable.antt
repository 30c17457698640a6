-- The text of a value's type is taken for its type.
use Rattle.std.proofs.Common.{◌≡◌, Ok, refl}
use Rattle.mlir_base.specs.declared.types.ElemTy.{ElemTy}
use Rattle.mlir_base.specs.declared.types.ElemTy.TheVariants.{Int, Index}
use Rattle.text_format.specs.Token.{TokenShape}
use Rattle.mlir_ir.specs.declared.tree.Ty.{Ty}
use Rattle.mlir_ir.specs.declared.tree.Ty.TheVariants.{Scalar, Tensor, Vector}
use Rattle.mlir_scope.specs.Types.{elem_of}
use Rattle.mlir_scope.specs.Scope.{same_operand}
use Rattle.mlir_print.specs.Types.{ty_text}
use Rattle.mlir_roundtrip.specs.Printable.{IsIntegerType, IsValueType}
use Rattle.mlir_roundtrip.proofs.Numbers.{Good, elem_good}
use Rattle.mlir_roundtrip.proofs.Readable.{readable}

pub record Usable (ty : Ty) : Type 0 where
  pub same : (t : TokenShape) → t.text ≡ ty_text ty → same_operand ty t ≡ Ok tt
  pub elem : Good (elem_of ty)

integer_usable : (e : ElemTy) → IsIntegerType e → Usable (Scalar e)
integer_usable (Int w) h = let g = elem_good (Int w) h in record { same = λ t e. rw (e, g) refl; elem = g }
integer_usable Index h = absurd h

pub usable : (ty : Ty) → IsValueType ty → Usable ty
usable (Scalar e) h = integer_usable e h
usable (Tensor es w) h = let r = readable (Tensor es w) h in record { same = λ t e. rw (e, r.same) refl; elem = r.elem }
usable (Vector ns w) h = absurd h
