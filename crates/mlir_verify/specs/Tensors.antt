-- Tests on the types of values (Builtin, "RankedTensorType").
use Rattle.std.specs.Prelude.{ℕ, ◌==◌, ◌*◌, ◌&&◌, Bool, true, false, List, [], ◌∷◌, length, Option, Some, None}
use Rattle.std.specs.List.{list_all}
use Rattle.mlir_base.specs.declared.types.ElemTy.{ElemTy}
use Rattle.mlir_base.specs.declared.types.ElemTy.TheVariants.{Int}
use Rattle.mlir_ir.specs.declared.tree.Extent.{Extent}
use Rattle.mlir_ir.specs.declared.tree.Extent.TheVariants.{Fixed, Any}
use Rattle.mlir_ir.specs.declared.tree.Ty.{Ty}
use Rattle.mlir_ir.specs.declared.tree.Ty.TheVariants.{Scalar, Tensor, Vector}
use Rattle.mlir_ir.specs.declared.tree.ValueId.{ValueId}

abbrev pub is_fixed : Extent → Bool
is_fixed (Fixed n) = true
is_fixed Any = false

-- a tensor with fixed extents
abbrev pub is_fixed_tensor : Ty → Bool
is_fixed_tensor (Scalar e) = false
is_fixed_tensor (Tensor extents w) = list_all is_fixed extents
is_fixed_tensor (Vector extents w) = false

-- a fixed extent as a number
abbrev pub size_of : Extent → ℕ
size_of (Fixed n) = n
size_of Any = 0

-- the number of elements of a tensor of these fixed extents
abbrev pub elements : List Extent → ℕ
elements [] = 1
elements (x ∷ xs) = size_of x * elements xs

-- the extents of a tensor
abbrev pub extents_of : Option Ty → List Extent
extents_of (Some (Tensor extents w)) = extents
extents_of _ = []

-- the number of axes of a tensor
abbrev pub rank_of : Option Ty → ℕ
rank_of ty = length (extents_of ty)

abbrev pub is_tensor : Option Ty → Bool
is_tensor (Some (Tensor extents w)) = true
is_tensor _ = false

-- a tensor with elements of this type
abbrev pub has_elements : Option Ty → ElemTy → Bool
has_elements (Some (Tensor extents v)) (Int w) = v == w
has_elements _ _ = false

-- tensors with elements of one width
abbrev pub are_as_wide : Option Ty → Option Ty → Bool
are_as_wide (Some (Tensor xs v)) (Some (Tensor ys w)) = v == w
are_as_wide _ _ = false

-- tensors with elements of one width and as many axes
abbrev pub is_alike : Option Ty → Option Ty → Bool
is_alike (Some (Tensor xs v)) (Some (Tensor ys w)) = v == w && length xs == length ys
is_alike _ _ = false

-- the type of the one result
abbrev pub result_type : List (ValueId × Ty) → Option Ty
result_type [] = None
result_type (r ∷ []) = Some r.1
result_type (r ∷ s ∷ rs) = None
