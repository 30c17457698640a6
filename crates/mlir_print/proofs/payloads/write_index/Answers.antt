use Rattle.std.proofs.Common.{◌∙◌, append_assoc}
use Rattle.mlir_print.proofs.payloads.write_index.Goals as goal

pub returns : goal.returns
returns c = c.in_ok-extend_from_slice-2.ensures.items ∙ simp (c.in_ok-write_number.ensures, c.in_ok-extend_from_slice.ensures.items, append_assoc)
