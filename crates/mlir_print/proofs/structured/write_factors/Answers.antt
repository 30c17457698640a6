use Rattle.std.proofs.Common.{◌∙◌, append_assoc}
use Rattle.std.proofs.lemmas.Result.{on_ok_weaker}
use Rattle.mlir_print.specs.StructuredParts.{factors_text}
use Rattle.mlir_print.proofs.structured.write_factors.Goals as goal

pub returns : goal.returns
unfolding factors_text
returns c = on_ok_weaker c.write_into.result (λ e. e ∙ simp (c.in_ok-extend_from_slice-3.ensures.items, c.in_ok-write_two_types.ensures, c.in_ok-extend_from_slice-2.ensures.items, c.in_ok-write_two_names.ensures, c.in_ok-extend_from_slice.ensures.items, append_assoc)) c.write_into.ensures
