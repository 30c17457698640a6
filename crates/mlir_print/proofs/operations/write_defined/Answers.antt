use Rattle.std.proofs.Common.{◌∙◌, append_assoc}
use Rattle.std.proofs.lemmas.Result.{on_ok_weaker}
use Rattle.mlir_print.specs.OperationParts.{defined_text}
use Rattle.mlir_print.proofs.operations.write_defined.Goals as goal

pub returns : goal.returns
unfolding defined_text
returns c = on_ok_weaker c.write_operation.result
    (λ e. e ∙ simp (c.in_ok-extend_from_slice.ensures.items, c.in_ok-write_name.ensures, c.next_result.ensures.value, append_assoc))
    c.write_operation.ensures
