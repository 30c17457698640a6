use Rattle.std.proofs.Common.{append_assoc}
use Rattle.mlir_print.specs.StructuredParts.{transpose_text}
use Rattle.mlir_print.proofs.structured.write_transpose.Goals as goal

pub returns : goal.returns
unfolding transpose_text
returns c = simp (c.in_ok-extend_from_slice-3.ensures.items, c.in_ok-write_axes.ensures, c.in_ok-extend_from_slice-2.ensures.items, c.in_ok-write_moved.ensures, c.in_ok-extend_from_slice.ensures.items, append_assoc)
