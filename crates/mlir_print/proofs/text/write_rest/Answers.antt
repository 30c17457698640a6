use Rattle.std.proofs.Common.{append_assoc}
use Rattle.mlir_print.proofs.text.write_rest.Goals as goal

pub returns-in_ok-extend_from_slice-in-Some-2 : goal.returns-in_ok-extend_from_slice-in-Some-2
returns-in_ok-extend_from_slice-in-Some-2 c = simp (c.in_ok-extend_from_slice-in-Some-2.ensures.items, c.in_ok-write_script-in-Some.ensures, c.in_ok-extend_from_slice-in-Some.ensures.items, c.in-Some.is, append_assoc)
