-- One more than the greatest number, of lists that follow one another.
use Rattle.std.proofs.Common.{◌≡◌, ◌++◌, max, List, [], ◌∷◌, refl, arith}
use Rattle.mlir_ir.specs.declared.tree.ValueId.{ValueId}
use Rattle.verified_runs.specs.Fresh.{above_values}

pub above_append : (xs ys : List ValueId) → above_values (xs ++ ys) ≡ max (above_values xs) (above_values ys)
above_append [] ys = omega arith
above_append (x ∷ xs) ys = omega (arith, above_append xs ys)
