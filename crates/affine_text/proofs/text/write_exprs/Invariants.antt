use Rattle.std.proofs.Common.{◌≡◌, ◌++◌, drop, []}
use Rattle.affine_text.specs.Text.{exprs_text}
use Rattle.affine_text.proofs.text.write_exprs.Given as goal

abbrev pub invariant-loop-expr : goal.invariant-loop-expr
invariant-loop-expr l = l.out.items ++ exprs_text l.before (drop l.expr-index l.exprs) ≡ l.initial.out.items ++ exprs_text [] l.exprs
