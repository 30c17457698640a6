-- V2 of the named structured operations (Linalg, "linalg.fill", "linalg.matmul", "linalg.batch_matmul", "linalg.transpose",
-- "linalg.broadcast"); that their result is like their output is told beside that of a generic.
use Rattle.std.specs.Prelude.{ℕ, ◌==◌, ◌+◌, ◌&&◌, not, nat_lt, nat_le, Bool, false, List, length, Option, Some}
use Rattle.std.specs.List.{list_all}
use Rattle.affine_maps.specs.Permutation.{repeats}
use Rattle.mlir_base.specs.declared.types.ElemTy.TheVariants.{Int}
use Rattle.mlir_ir.specs.declared.tree.Ty.{Ty}
use Rattle.mlir_ir.specs.declared.tree.Ty.TheVariants.{Scalar, Tensor}
use Rattle.mlir_ir.specs.declared.tree.ValueId.{ValueId}
use Rattle.mlir_verify.specs.Constants.{Constants}
use Rattle.mlir_verify.specs.Place.{Types}
use Rattle.mlir_verify.specs.Tensors.{rank_of, are_as_wide, is_alike}

-- a scalar of the type of a tensor's elements
abbrev pub is_element : Option Ty → Option Ty → Bool
is_element (Some (Scalar (Int v))) (Some (Tensor extents w)) = v == w
is_element _ _ = false

abbrev pub is_typed_fill : Types → Constants → ValueId → ValueId → Bool
is_typed_fill t constants value outs = is_element (t value.0) (t outs.0) && constants value.0

-- tensors, the first with elements of at least one bit and of no greater width
abbrev pub is_at_most_as_wide : Option Ty → Option Ty → Bool
is_at_most_as_wide (Some (Tensor xs v)) (Some (Tensor ys w)) = nat_lt 0 v && nat_le v w
is_at_most_as_wide _ _ = false

-- inputs of equal width, at most the output's, and each operand with so many axes
abbrev pub is_typed_product : ℕ → Option Ty → Option Ty → Option Ty → Bool
is_typed_product axes a b out =
    (are_as_wide a b && is_at_most_as_wide b out) && (rank_of a == axes && (rank_of b == axes && rank_of out == axes))

-- numbers of axes: each in range, and none twice
abbrev pub are_axes : List ℕ → ℕ → Bool
are_axes ns rank = list_all (λ n. nat_lt n rank) ns && not (repeats ns)

-- as many axes as the tensors have, so that the order is a permutation of them
abbrev pub is_typed_transpose : List ℕ → Option Ty → Option Ty → Bool
is_typed_transpose order source out = is_alike source out && (length order == rank_of out && are_axes order (rank_of out))

-- the axes that the source hasn't
abbrev pub is_typed_broadcast : List ℕ → Option Ty → Option Ty → Bool
is_typed_broadcast dims source out = are_as_wide source out && (rank_of source + length dims == rank_of out && are_axes dims (rank_of out))
