use Rattle.std.proofs.Common.{◌∙◌, append_assoc}
use Rattle.std.proofs.lemmas.Result.{on_ok_weaker}
use Rattle.mlir_print.specs.GenericParts.{head_text}
use Rattle.mlir_print.proofs.generics.write_head.Goals as goal

pub returns : goal.returns
unfolding head_text
returns c = on_ok_weaker c.write_operands.result (λ e. e ∙ simp (c.in_ok-extend_from_slice-2.ensures.items, c.in_ok-write_traits.ensures, c.in_ok-extend_from_slice.ensures.items, append_assoc)) c.write_operands.ensures
