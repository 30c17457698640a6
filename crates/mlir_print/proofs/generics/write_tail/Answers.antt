use Rattle.std.proofs.Common.{◌∙◌, append_assoc}
use Rattle.std.proofs.lemmas.Result.{on_ok_weaker}
use Rattle.mlir_print.specs.GenericParts.{tail_text}
use Rattle.mlir_print.proofs.generics.write_tail.Goals as goal

pub returns : goal.returns
unfolding tail_text
returns c = on_ok_weaker c.write_type.result
    (λ e. e ∙ simp (c.in_ok-extend_from_slice-2.ensures.items, c.in_ok-write_region.ensures, c.next_argument.ensures.value, c.next_result.ensures.value, c.in_ok-extend_from_slice.ensures.items, append_assoc))
    c.write_type.ensures
