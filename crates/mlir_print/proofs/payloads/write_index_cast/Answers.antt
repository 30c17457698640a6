use Rattle.std.proofs.Common.{◌∙◌, append_assoc}
use Rattle.std.proofs.lemmas.Result.{on_ok_weaker}
use Rattle.mlir_print.proofs.payloads.write_index_cast.Goals as goal

pub returns : goal.returns
returns c = on_ok_weaker c.write_conversion.result
    (λ e. e ∙ simp (c.in_ok-extend_from_slice.ensures.items, append_assoc))
    c.write_conversion.ensures
