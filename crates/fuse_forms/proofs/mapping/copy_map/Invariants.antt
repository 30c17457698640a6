use Rattle.std.proofs.Common.{◌≡◌, take}
use Rattle.fuse_forms.proofs.mapping.copy_map.Given as goal

abbrev pub invariant-loop-expr : goal.invariant-loop-expr
invariant-loop-expr l = l.results ≡ take l.expr-index l.map.results
