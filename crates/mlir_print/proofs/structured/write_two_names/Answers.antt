use Rattle.std.proofs.Common.{◌∙◌, append_assoc}
use Rattle.std.proofs.lemmas.Result.{on_ok_weaker}
use Rattle.mlir_print.specs.StructuredParts.{two_names_text}
use Rattle.mlir_print.proofs.structured.write_two_names.Goals as goal

pub returns : goal.returns
unfolding two_names_text
returns c = on_ok_weaker c.write_value-2.result (λ e. e ∙ simp (c.in_ok-extend_from_slice.ensures.items, c.in_ok-write_value.ensures, append_assoc)) c.write_value-2.ensures
