use Rattle.std.proofs.Common.{◌∙◌, append_assoc}
use Rattle.std.proofs.lemmas.Result.{on_ok_weaker}
use Rattle.mlir_print.specs.PayloadParts.{block_text}
use Rattle.mlir_print.proofs.payloads.write_block.Goals as goal

pub returns : goal.returns
unfolding block_text
returns c = on_ok_weaker c.write_yield.result
    (λ e. e ∙ simp (c.in_ok-write_steps.ensures, c.in_ok-extend_from_slice-2.ensures.items, c.in_ok-write_block_args.ensures, c.in_ok-extend_from_slice.ensures.items, append_assoc))
    c.write_yield.ensures
