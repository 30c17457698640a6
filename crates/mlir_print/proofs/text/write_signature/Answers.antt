use Rattle.std.proofs.Common.{◌∙◌, append_assoc}
use Rattle.std.proofs.lemmas.Result.{on_ok_weaker}
use Rattle.mlir_print.specs.Parts.{signature_text}
use Rattle.mlir_print.proofs.text.write_signature.Goals as goal

pub returns-clause-text : goal.returns-clause-text
unfolding signature_text
returns-clause-text c = on_ok_weaker c.write_results.result
    (λ e. e ∙ simp (c.in_ok-extend_from_slice.ensures.items, c.in_ok-write_params.ensures.text, c.requires, c.in_ok-write_opening.ensures, append_assoc))
    c.write_results.ensures
