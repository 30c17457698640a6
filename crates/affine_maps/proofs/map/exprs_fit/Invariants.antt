use Rattle.std.proofs.Common.{◌≡◌, drop}
use Rattle.std.specs.List.{list_all}
use Rattle.affine_maps.specs.Map.{expr_fits}
use Rattle.affine_maps.proofs.map.exprs_fit.Given as goal

abbrev pub invariant-loop-expr : goal.invariant-loop-expr
invariant-loop-expr l = list_all (expr_fits l.dims) l.exprs ≡ list_all (expr_fits l.dims) (drop l.expr-index l.exprs)
