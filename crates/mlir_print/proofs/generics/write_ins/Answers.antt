use Rattle.std.proofs.Common.{append_assoc}
use Rattle.mlir_print.specs.GenericParts.{ins_text}
use Rattle.mlir_print.proofs.generics.write_ins.Goals as goal

pub returns : goal.returns
unfolding ins_text
returns c = simp (c.in_ok-extend_from_slice-3.ensures.items, c.in_ok-write_types.ensures, c.in_ok-extend_from_slice-2.ensures.items, c.in_ok-write_values.ensures, c.in_ok-extend_from_slice.ensures.items, append_assoc)
