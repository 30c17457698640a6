-- Types, as they are written (MLIR Builtin dialect, "RankedTensorType" and "IntegerType").
use Rattle.std.specs.Prelude.{ℕ, Bool, true, false, ◌&&◌, nat_eq, nat_le, List, [], ◌∷◌, length, map, if◌then◌else◌, Result, Ok, Err, Option, Some, None}
use Rattle.text_format.specs.declared.types.Extent as written
use Rattle.text_format.specs.declared.types.Extent.TheVariants as extents
use Rattle.text_format.specs.declared.types.RankedShape.{RankedShape}
use Rattle.text_format.specs.Types.{extents_of, ranked_from, element_of}
use Rattle.text_format.specs.Token.{TokenShape}
use Rattle.mlir_base.specs.declared.types.ElemTy.{ElemTy}
use Rattle.mlir_base.specs.declared.types.ElemTy.TheVariants.{Int}
use Rattle.payload_ops.specs.Payload.{has_type}
use Rattle.mlir_ir.specs.declared.tree.Ty.{Ty}
use Rattle.mlir_ir.specs.declared.tree.Ty.TheVariants.{Scalar, Tensor, Vector}
use Rattle.mlir_ir.specs.declared.tree.Extent.{Extent}
use Rattle.mlir_ir.specs.declared.tree.Extent.TheVariants.{Fixed, Any}
use Rattle.mlir_base.specs.declared.limit.Which.TheVariants as limits
use Rattle.mlir_lex.specs.declared.fault.Fault.{Fault}
use Rattle.mlir_lex.specs.declared.fault.Fault.TheVariants.{Syntax, TypeDiffers, Limit}
use Rattle.mlir_ir.specs.Shape.{volume}
use Rattle.mlir_lex.specs.Chain.{and_then, demand, each}

abbrev pub extent_at : ℕ → written.Extent → Result Extent Fault
extent_at at (extents.Fixed n) = Ok (Fixed n)
extent_at at extents.TooLarge = Err (Limit limits.Extent at)

-- as an axis counts in the number of elements
abbrev pub counted : Extent → ℕ
counted (Fixed n) = n
counted Any = 0

-- the number of a tensor's elements
abbrev pub elements : List Extent → ℕ
elements es = volume (map counted es)

-- a number of elements past the limit counts as the next one
abbrev pub least_elements : ℕ → ℕ
least_elements n = if nat_le n 4194304 then n else 4194305

-- rank, extents and elements are within their limits
abbrev pub shape_type : ℕ → Option RankedShape → Result Ty Fault
shape_type at None = Err (Syntax at)
shape_type at (Some s) =
    and_then (demand (nat_le (length s.extents) 8) (Limit limits.Rank at)) (λ _. and_then (each (extent_at at) s.extents) (λ es.
    and_then (demand (nat_le (elements es) 4194304) (Limit limits.Elements at)) (λ _. Ok (Tensor es s.width))))

-- the type that a token writes
abbrev pub type_at : TokenShape → Result Ty Fault
type_at t = shape_type t.start (ranked_from (extents_of t.text))

abbrev pub is_extent : written.Extent → Extent → Bool
is_extent (extents.Fixed n) (Fixed m) = nat_eq n m
is_extent (extents.Fixed n) Any = false
is_extent extents.TooLarge e = false

abbrev pub are_extents : List written.Extent → List Extent → Bool
are_extents [] [] = true
are_extents [] (e ∷ es) = false
are_extents (n ∷ ns) [] = false
are_extents (n ∷ ns) (e ∷ es) = is_extent n e && are_extents ns es

-- the shape is that of the type; no type has an extent past the limit
abbrev pub is_shape : Option RankedShape → Ty → Bool
is_shape None ty = false
is_shape (Some s) (Scalar e) = false
is_shape (Some s) (Vector es w) = false
is_shape (Some s) (Tensor es w) = are_extents s.extents es && nat_eq s.width w

-- the type that is written is this one
abbrev pub same_type : Ty → TokenShape → Result (Unit {0}) Fault
same_type ty t = demand (is_shape (ranked_from (extents_of t.text)) ty) (TypeDiffers t.start)

abbrev pub elem_of : Ty → ElemTy
elem_of (Scalar e) = e
elem_of (Tensor es w) = Int w
elem_of (Vector es w) = Int w

-- the element type that is written is this one
abbrev pub same_elem : ElemTy → TokenShape → Result (Unit {0}) Fault
same_elem e t = demand (has_type (element_of t.text) e) (TypeDiffers t.start)
