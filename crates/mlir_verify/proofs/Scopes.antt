-- Operands in scope, part by part.
use Rattle.std.proofs.Common.{◌≡◌, ◌&&◌, List, ◌++◌}
use Rattle.std.specs.Prelude.{is_some}
use Rattle.std.proofs.lemmas.List.Folds.{list_all-append}
use Rattle.mlir_ir.specs.declared.tree.ValueId.{ValueId}
use Rattle.mlir_verify.specs.Place.{Types}
use Rattle.mlir_verify.specs.Names.{in_scope}

pub in_scope_append : (t : Types) (xs ys : List ValueId) → in_scope t (xs ++ ys) ≡ (in_scope t xs && in_scope t ys)
in_scope_append t xs ys = list_all-append (λ (v : ValueId). is_some (t v.0)) xs ys
