use Rattle.std.proofs.Common.{◌∙◌, append_assoc}
use Rattle.std.proofs.lemmas.Result.{on_ok_weaker}
use Rattle.mlir_print.specs.OperationParts.{dense_text}
use Rattle.mlir_print.proofs.constants.write_dense.Goals as goal

pub returns : goal.returns
unfolding dense_text
returns c = on_ok_weaker c.write_type.result (λ e. e ∙ simp (c.requires, c.in_ok-extend_from_slice-2.ensures.items, c.in_ok-write_cells.ensures, c.in_ok-extend_from_slice.ensures.items, append_assoc)) c.write_type.ensures
