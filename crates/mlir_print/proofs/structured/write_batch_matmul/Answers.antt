use Rattle.std.proofs.Common.{◌∙◌, append_assoc}
use Rattle.std.proofs.lemmas.Result.{on_ok_weaker}
use Rattle.mlir_print.proofs.structured.write_batch_matmul.Goals as goal

pub returns : goal.returns
returns c = on_ok_weaker c.write_factors.result (λ e. e ∙ simp (c.in_ok-extend_from_slice.ensures.items, append_assoc)) c.write_factors.ensures
