use Rattle.std.proofs.Common.{◌≡◌, drop}
use Rattle.mlir_scope.specs.Literals.{spelled_from, digits_value}
use Rattle.mlir_scope.proofs.literals.digits_value.Given as goal

abbrev pub invariant-loop-digit : goal.invariant-loop-digit
invariant-loop-digit l = spelled_from (drop l.digit-index l.digits) l.value ≡ digits_value l.digits
