-- Values that an `arith.constant` defines, and V2 of an `arith.constant` (Arith, "arith.constant").
use Rattle.std.specs.Prelude.{ℕ, ◌==◌, ◌^◌, ◌&&◌, nat_lt, Bool, true, false, List, [], length, Option, Some, if◌then◌else◌}
use Rattle.std.specs.List.{flat_map, list_all}
use Rattle.mlir_base.specs.declared.types.ElemTy.TheVariants.{Int}
use Rattle.mlir_ir.specs.declared.tree.Op.{Op}
use Rattle.mlir_ir.specs.declared.tree.OpKind.{OpKind, Constant}
use Rattle.mlir_ir.specs.declared.tree.Ty.{Ty}
use Rattle.mlir_ir.specs.declared.tree.Ty.TheVariants.{Scalar, Tensor}
use Rattle.affine_maps.specs.Permutation.{is_among}
use Rattle.mlir_verify.specs.Names.{numbers}
use Rattle.mlir_verify.specs.Place.{Place}
use Rattle.mlir_verify.specs.Tensors.{elements}

abbrev pub is_constant : OpKind → Bool
is_constant (Constant value) = true
is_constant _ = false

abbrev pub constants_of : Op → List ℕ
constants_of o = if is_constant o.kind then numbers o.results else []

-- the constants that the operations of a body define
abbrev pub constants_at : List Op → List ℕ
constants_at = flat_map constants_of

-- which values are constants
abbrev pub Constants : Type 0
Constants = ℕ → Bool

abbrev pub constants_before : Place → Constants
constants_before p v = is_among v (constants_at p.earlier)

abbrev pub are_cells : ℕ → List ℕ → Bool
are_cells w = list_all (λ c. nat_lt c (2 ^ w))

-- as many cells as the type has elements, each a value of their width
abbrev pub has_cells : Option Ty → List ℕ → Bool
has_cells (Some (Scalar (Int w))) cells = length cells == 1 && are_cells w cells
has_cells (Some (Tensor extents w)) cells = length cells == elements extents && are_cells w cells
has_cells _ cells = false
