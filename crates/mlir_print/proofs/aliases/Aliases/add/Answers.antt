use Rattle.std.proofs.Common.{List, ℕ, map, refl, ap, ◌∙◌}
use Rattle.std.specs.Str.{bytes_eq}
use Rattle.mlir_print.specs.MapParts.{with_text}
use Rattle.mlir_print.proofs.Texts.{added_text}
use Rattle.mlir_print.proofs.aliases.Aliases.add.Goals as goal

pub returns : goal.returns
returns c =
    ap (map (λ t. t.items)) c.in_ok-insert_full.ensures.keys ∙ added_text (λ t. t.items) (λ x y. bytes_eq x.items y.items) c.self.inside.texts.keys c.into_vec-text.result (λ y. refl)
    ∙ ap (λ (ts : List (List ℕ)). with_text ts c.into_vec-text.result.items) c.self.view_is ∙ ap (with_text c.args.self.now) (c.into_vec-text.ensures ∙ c.in_ok-map_text.ensures.text)
