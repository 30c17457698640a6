use Rattle.std.proofs.Common.{List, ℕ, Option, sym, ap, ◌∙◌}
use Rattle.std.specs.Prelude.{unwrap_or}
use Rattle.mlir_print.specs.MapParts.{text_number}
use Rattle.mlir_print.proofs.Texts.{number_of_text}
use Rattle.mlir_print.proofs.aliases.Aliases.number.Goals as goal

pub returns-in-Some : goal.returns-in-Some
returns-in-Some c =
    ap (λ (o : Option ℕ). unwrap_or o 0) c.in-Some.ensures.index ∙ sym (number_of_text (λ t. t.items) c.as_slice.result.now c.self.inside.texts.keys)
    ∙ ap (λ (ts : List (List ℕ)). text_number ts c.as_slice.result.now) c.self.view_is ∙ ap (text_number c.args.self.now) (c.as_slice.ensures ∙ c.in_ok-text.ensures.text)

pub returns : goal.returns
returns c =
    ap (λ (o : Option ℕ). unwrap_or o 0) c.in-None.ensures.index ∙ sym (number_of_text (λ t. t.items) c.as_slice.result.now c.self.inside.texts.keys)
    ∙ ap (λ (ts : List (List ℕ)). text_number ts c.as_slice.result.now) c.self.view_is ∙ ap (text_number c.args.self.now) (c.as_slice.ensures ∙ c.in_ok-text.ensures.text)
