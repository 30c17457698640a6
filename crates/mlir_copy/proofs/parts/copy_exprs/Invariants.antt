use Rattle.std.proofs.Common.{◌≡◌, take}
use Rattle.mlir_copy.proofs.parts.copy_exprs.Given as goal

abbrev pub invariant-loop-expr : goal.invariant-loop-expr
invariant-loop-expr l = l.copies ≡ take l.expr-index l.exprs
