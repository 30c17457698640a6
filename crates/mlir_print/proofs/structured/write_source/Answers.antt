use Rattle.std.proofs.Common.{append_assoc}
use Rattle.mlir_print.specs.StructuredParts.{source_text}
use Rattle.mlir_print.proofs.structured.write_source.Goals as goal

pub returns : goal.returns
unfolding source_text
returns c = simp (c.in_ok-extend_from_slice-3.ensures.items, c.in_ok-write_value_type.ensures, c.in_ok-extend_from_slice-2.ensures.items, c.in_ok-write_value.ensures, c.in_ok-extend_from_slice.ensures.items, append_assoc)
