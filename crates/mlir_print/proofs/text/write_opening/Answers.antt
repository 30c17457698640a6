use Rattle.std.proofs.Common.{append_assoc}
use Rattle.mlir_print.specs.Parts.{opening_text}
use Rattle.mlir_print.proofs.text.write_opening.Goals as goal

pub returns : goal.returns
unfolding opening_text
returns c = simp (c.in_ok-extend_from_slice-3.ensures.items, c.in_ok-extend_from_slice-2.ensures.items, c.as_bytes.ensures.value, c.in_ok-extend_from_slice.ensures.items, append_assoc)
