use Rattle.std.proofs.Common.{◌∙◌, append_assoc}
use Rattle.std.proofs.lemmas.Result.{on_ok_weaker}
use Rattle.mlir_print.specs.StructuredParts.{moved_text}
use Rattle.mlir_print.proofs.structured.write_moved.Goals as goal

pub returns : goal.returns
unfolding moved_text
returns c = on_ok_weaker c.write_outs.result (λ e. e ∙ simp (c.in_ok-extend_from_slice.ensures.items, c.in_ok-write_source.ensures, append_assoc)) c.write_outs.ensures
