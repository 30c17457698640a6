use Rattle.std.proofs.Common.{◌≡◌, take}
use Rattle.fuse_forms.proofs.mapping.copy_expr.Given as goal

abbrev pub invariant-loop-term : goal.invariant-loop-term
invariant-loop-term l = l.terms ≡ take l.term-index l.expr.terms
