use Rattle.std.proofs.Common.{◌∙◌, append_assoc}
use Rattle.std.proofs.lemmas.Result.{on_ok_weaker}
use Rattle.mlir_print.specs.StructuredParts.{fill_text}
use Rattle.mlir_print.proofs.structured.write_fill.Goals as goal

pub returns : goal.returns
unfolding fill_text
returns c = on_ok_weaker c.write_into.result (λ e. e ∙ simp (c.in_ok-extend_from_slice-2.ensures.items, c.in_ok-write_source.ensures, c.in_ok-extend_from_slice.ensures.items, append_assoc)) c.write_into.ensures
