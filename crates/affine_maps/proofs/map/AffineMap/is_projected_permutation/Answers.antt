use Rattle.std.proofs.Common.{◌≡◌, ap, sym, ◌∙◌, ◌&&◌}
use Rattle.std.specs.Prelude.{not, is_some}
use Rattle.std.specs.List.{list_all}
use Rattle.std.proofs.Common.{List}
use Rattle.affine_maps.specs.declared.map.Expr.{Expr}
use Rattle.affine_maps.specs.Permutation.{is_projected_permutation, dimension_of, dimensions_of, repeats}
use Rattle.affine_maps.proofs.Permuting.{to_dimensions, from_dimensions}
use Rattle.affine_maps.proofs.map.AffineMap.is_projected_permutation.Goals as goal

pub returns-clause-dimensions : goal.returns-clause-dimensions
returns-clause-dimensions c =
    let e : c.are_distinct_dimensions.result ≡ is_projected_permutation c.args.self.now =
    c.are_distinct_dimensions.ensures ∙ ap (λ (es : List Expr). list_all (λ e. is_some (dimension_of e)) es && not (repeats (dimensions_of es))) (c.as_slice.ensures ∙ c.results-results.ensures.value) in
    ((λ h. to_dimensions c.args.self.now (sym e ∙ h)), (λ p. e ∙ from_dimensions c.args.self.now p))
