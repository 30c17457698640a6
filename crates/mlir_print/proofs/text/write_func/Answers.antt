use Rattle.std.proofs.Common.{append_assoc}
use Rattle.mlir_print.specs.Parts.{func_text}
use Rattle.mlir_print.proofs.text.write_func.Goals as goal

pub returns : goal.returns
unfolding func_text
returns c = simp (c.in_ok-extend_from_slice-2.ensures.items, c.in_ok-write_body.ensures, c.in_ok-write_signature.ensures.names, c.in_ok-extend_from_slice.ensures.items, c.in_ok-write_signature.ensures.text, append_assoc)
