use Rattle.std.proofs.Common.{◌∙◌, append_assoc}
use Rattle.std.proofs.lemmas.Result.{on_ok_weaker}
use Rattle.mlir_print.specs.GenericParts.{generic_text}
use Rattle.mlir_print.proofs.generics.write_generic.Goals as goal

pub returns : goal.returns
unfolding generic_text
returns c = on_ok_weaker c.write_tail.result (λ e. e ∙ simp (c.in_ok-write_head.ensures, append_assoc)) c.write_tail.ensures
