-- V14: the limits on rank, loops, extent and elements are kept. They are the product's own.
use Rattle.std.specs.Prelude.{◌&&◌, ◌||◌, not, nat_le, Bool, true, List, length}
use Rattle.std.specs.List.{list_all}
use Rattle.mlir_ir.specs.Shape.{FuncShape}
use Rattle.mlir_ir.specs.declared.tree.Extent.{Extent}
use Rattle.mlir_ir.specs.declared.tree.Op.{Op}
use Rattle.mlir_ir.specs.declared.tree.OpKind.{OpKind, Generic}
use Rattle.mlir_ir.specs.declared.tree.Ty.{Ty}
use Rattle.mlir_ir.specs.declared.tree.Ty.TheVariants.{Scalar, Tensor, Vector}
use Rattle.mlir_verify.specs.Place.{Place, is_first}
use Rattle.mlir_verify.specs.Tensors.{size_of, elements}

-- 8 axes, 1,048,576 along each, 4,194,304 elements
abbrev pub is_small : List Extent → Bool
is_small extents = nat_le (length extents) 8 && (list_all (λ x. nat_le (size_of x) 1048576) extents && nat_le (elements extents) 4194304)

-- no vector is built, so one breaks V2 or V4 before
abbrev pub is_small_type : Ty → Bool
is_small_type (Scalar e) = true
is_small_type (Tensor extents w) = is_small extents
is_small_type (Vector extents w) = true

-- 12 dimensions of a generic
abbrev pub has_few_dimensions : OpKind → Bool
has_few_dimensions (Generic maps iterators ins outs captured payload) = nat_le (length iterators) 12
has_few_dimensions _ = true

abbrev pub has_small_signature : FuncShape → Bool
has_small_signature f = list_all (λ d. is_small_type d.1) f.params && list_all is_small_type f.results

abbrev pub is_small_op : Op → Bool
is_small_op o = list_all (λ r. is_small_type r.1) o.results && has_few_dimensions o.kind

-- a type stands at the operation that defines its value, and a signature's at the function's first operation
unfoldable pub breaks_limits : Place → Bool
breaks_limits p = not (is_small_op p.op) || (is_first p && not (has_small_signature p.func))
