use Rattle.std.proofs.Common.{append_assoc}
use Rattle.mlir_print.specs.GenericParts.{maps_text}
use Rattle.mlir_print.proofs.generics.write_maps.Goals as goal

pub returns : goal.returns
unfolding maps_text
returns c = simp (c.in_ok-extend_from_slice-2.ensures.items, c.in_ok-write_uses.ensures, c.in_ok-extend_from_slice.ensures.items, append_assoc)
