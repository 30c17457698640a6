use Rattle.std.proofs.Common.{◌≡◌, ℕ, ◌+◌, ◌<◌, ◌++◌, [], ◌∷◌, List, length, take, get_or, sym, ap, ◌∙◌}
use Rattle.std.proofs.lemmas.List.{take_more}
use Rattle.std.proofs.lemmas.List.Elements.{filter_map-append}
use Rattle.affine_maps.specs.declared.map.Expr.{Expr}
use Rattle.affine_maps.specs.Permutation.{dimension_of, dimensions_of}
use Rattle.mlir_verify.proofs.Adding.{set_at}
use Rattle.mlir_verify.proofs.maps.dimensions.Goals as goal

one_more : (es : List Expr) (i : ℕ) (e : Expr) → i < length es → e ≡ get_or es i e → dimensions_of (take i es) ++ dimensions_of (e ∷ []) ≡ dimensions_of (take (i + 1) es)
one_more es i e h is =
    sym (ap dimensions_of (take_more es i e h) ∙ filter_map-append dimension_of (take i es) (get_or es i e ∷ []) ∙ ap (λ (x : Expr). dimensions_of (take i es) ++ dimensions_of (x ∷ [])) (sym is))

pub loop-e-preserved : goal.loop-e-preserved
loop-e-preserved c =
    set_at c.add_dimension.new.set _ _ (one_more c.args.results.now c.loop-e.e-index c.e-item.result c.loop-e-test.true c.e-item.is)
    (c.in_ok-add_dimension.ensures (dimensions_of (take c.loop-e.e-index c.args.results.now)) c.loop-e.invariant)
