use Rattle.std.proofs.Common.{append_assoc}
use Rattle.mlir_print.proofs.aliases.write_alias_line.Goals as goal

pub returns : goal.returns
returns c = simp (c.in_ok-extend_from_slice-3.ensures.items, c.in_ok-extend_from_slice-2.ensures.items, c.in_ok-extend_from_slice.ensures.items, c.in_ok-write_alias.ensures, append_assoc)
