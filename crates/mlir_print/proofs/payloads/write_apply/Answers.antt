use Rattle.std.proofs.Common.{◌∙◌, append_assoc}
use Rattle.mlir_print.specs.PayloadParts.{apply_text}
use Rattle.mlir_print.proofs.payloads.write_apply.Goals as goal

pub returns : goal.returns
unfolding apply_text
returns c =
    c.in_ok-extend_from_slice-3.ensures.items
    ∙ simp (c.in_ok-write_arguments.ensures, c.in_ok-extend_from_slice-2.ensures.items, c.in_ok-write_use.ensures, c.in_ok-extend_from_slice.ensures.items, append_assoc)
