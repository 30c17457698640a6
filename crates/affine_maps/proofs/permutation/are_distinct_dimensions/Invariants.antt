use Rattle.std.proofs.Common.{◌≡◌, ◌&&◌, drop}
use Rattle.std.specs.Prelude.{not, is_some}
use Rattle.std.specs.List.{list_all}
use Rattle.affine_maps.specs.Permutation.{dimension_of, dimensions_of, repeats}
use Rattle.affine_maps.proofs.permutation.are_distinct_dimensions.Given as goal

abbrev pub invariant-loop-i : goal.invariant-loop-i
invariant-loop-i l =
    (list_all (λ e. is_some (dimension_of e)) l.exprs && not (repeats (dimensions_of l.exprs)))
    ≡ (list_all (λ e. is_some (dimension_of e)) (drop l.i l.exprs) && not (repeats (dimensions_of (drop l.i l.exprs))))
