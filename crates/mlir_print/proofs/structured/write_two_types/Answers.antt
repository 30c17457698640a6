use Rattle.std.proofs.Common.{◌∙◌, append_assoc}
use Rattle.std.proofs.lemmas.Result.{on_ok_weaker}
use Rattle.mlir_print.specs.StructuredParts.{two_types_text}
use Rattle.mlir_print.proofs.structured.write_two_types.Goals as goal

pub returns : goal.returns
unfolding two_types_text
returns c = on_ok_weaker c.write_value_type-2.result (λ e. e ∙ simp (c.in_ok-extend_from_slice.ensures.items, c.in_ok-write_value_type.ensures, append_assoc)) c.write_value_type-2.ensures
