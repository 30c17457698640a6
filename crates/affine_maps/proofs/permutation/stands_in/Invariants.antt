use Rattle.std.proofs.Common.{◌≡◌, drop}
use Rattle.affine_maps.specs.Permutation.{is_among, dimensions_of}
use Rattle.affine_maps.proofs.permutation.stands_in.Given as goal

abbrev pub invariant-loop-expr : goal.invariant-loop-expr
invariant-loop-expr l = is_among l.dimension (dimensions_of l.exprs) ≡ is_among l.dimension (dimensions_of (drop l.expr-index l.exprs))
