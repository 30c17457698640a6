-- The limits on modules that an edit may pass, in their order. They are the product's own. Those on types and dimensions are the
-- verifier's last rule, one by one.
use Rattle.std.specs.Prelude.{◌&&◌, not, nat_le, Bool, true, List, [], ◌∷◌, length, Option, Some, None, if◌then◌else◌}
use Rattle.std.specs.List.{list_all}
use Rattle.mlir_base.specs.declared.limit.Which.{Which}
use Rattle.mlir_base.specs.declared.limit.Which.TheVariants as W
use Rattle.mlir_ir.specs.Shape.{FuncShape}
use Rattle.mlir_ir.specs.declared.tree.Extent.{Extent}
use Rattle.mlir_ir.specs.declared.tree.Op.{Op}
use Rattle.mlir_ir.specs.declared.tree.OpKind.{OpKind}
use Rattle.mlir_ir.specs.declared.tree.Ty.{Ty}
use Rattle.mlir_ir.specs.declared.tree.Ty.TheVariants.{Tensor}
use Rattle.mlir_verify.specs.Limits.{has_few_dimensions}
use Rattle.mlir_verify.specs.Tensors.{size_of, elements}
use Rattle.rewrite_base.specs.Limits.{has_many_operations, is_deep, has_long_payloads}

-- 8 axes, 1,048,576 along each, 4,194,304 elements
abbrev pub extents_keep : Which → List Extent → Bool
extents_keep W.Rank xs = nat_le (length xs) 8
extents_keep W.Extent xs = list_all (λ x. nat_le (size_of x) 1048576) xs
extents_keep W.Elements xs = nat_le (elements xs) 4194304
extents_keep _ xs = true

-- of tensors alone, since no vector is built
abbrev pub type_keeps : Which → Ty → Bool
type_keeps w (Tensor extents e) = extents_keep w extents
type_keeps w _ = true

-- 12 dimensions of a generic
abbrev pub kind_keeps : Which → OpKind → Bool
kind_keeps W.Loops kind = has_few_dimensions kind
kind_keeps _ kind = true

abbrev pub op_keeps : Which → Op → Bool
op_keeps w o = list_all (λ r. type_keeps w r.1) o.results && kind_keeps w o.kind

-- by its signature and its operations; what stands inside loops isn't entered, since no loop is built
abbrev pub func_keeps : Which → FuncShape → Bool
func_keeps w f = list_all (λ d. type_keeps w d.1) f.params && (list_all (type_keeps w) f.results && list_all (op_keeps w) f.body)

abbrev pub passes : Which → List FuncShape → Bool
passes W.Operations fs = has_many_operations fs
passes W.Depth fs = is_deep fs
passes W.PayloadSteps fs = has_long_payloads fs
passes w fs = not (list_all (func_keeps w) fs)

abbrev pub first_passed : List Which → List FuncShape → Option Which
first_passed [] fs = None
first_passed (w ∷ ws) fs = if passes w fs then Some w else first_passed ws fs

-- on types and dimensions; none on lanes, since no vector is built
abbrev pub limits_on_types : List Which
limits_on_types = W.Rank ∷ W.Loops ∷ W.Extent ∷ W.Elements ∷ []

abbrev pub limits_in_order : List Which
limits_in_order = W.Operations ∷ W.Depth ∷ W.PayloadSteps ∷ limits_on_types
