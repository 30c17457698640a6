use Rattle.std.proofs.Common.{List, ℕ, ℤ, ◌∷◌, [], refl, ap, ◌∙◌, w64}
use Rattle.std.proofs.lemmas.Int.{to_z-of_z}
use Rattle.affine_maps.specs.declared.map.Expr.{Expr}
use Rattle.mlir_print.proofs.LinearMaps.{linear_made}
use Rattle.mlir_print.proofs.linear.map_of_terms.Goals as goal

abbrev one : List (ℕ × ℤ) → ℤ → List Expr
one terms constant = record { constant = constant; terms = terms } ∷ []

pub returns : goal.returns
returns c =
    linear_made c.new.result _ _ c.args.constant c.args.terms.now refl
    (c.in_ok-results.ensures ∙ ap (one c.in_ok-terms.terms) (to_z-of_z w64 c.args.constant c.ranges.constant) ∙ ap (λ (us : List (ℕ × ℤ)). one us c.args.constant) c.in_ok-terms.ensures) c.new.ensures.valid.1 c.new.ensures.value c.requires.numbers
