-- V3: a body ends in its terminator, and only there (LangRef, "Blocks"). V4: parameters and results of functions are tensors
-- with fixed extents.
use Rattle.std.specs.Prelude.{◌&&◌, not, Bool, true, false, if◌then◌else◌}
use Rattle.std.specs.List.{list_all}
use Rattle.mlir_ir.specs.Shape.{FuncShape}
use Rattle.mlir_ir.specs.declared.tree.OpKind.{OpKind, Return}
use Rattle.mlir_verify.specs.Place.{Place, is_first, is_last}
use Rattle.mlir_verify.specs.Tensors.{is_fixed_tensor}

abbrev pub is_return : OpKind → Bool
is_return (Return values) = true
is_return _ = false

unfoldable pub breaks_end : Place → Bool
breaks_end p = if is_return p.op.kind then not (is_last p) else is_last p

-- V4
abbrev pub has_fixed_signature : FuncShape → Bool
has_fixed_signature f = list_all (λ d. is_fixed_tensor d.1) f.params && list_all is_fixed_tensor f.results

unfoldable pub breaks_signature : Place → Bool
breaks_signature p = is_first p && not (has_fixed_signature p.func)
