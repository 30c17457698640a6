use Rattle.std.proofs.Common.{append_assoc}
use Rattle.mlir_print.specs.GenericParts.{traits_text}
use Rattle.mlir_print.proofs.generics.write_traits.Goals as goal

pub returns : goal.returns
unfolding traits_text
returns c = simp (c.in_ok-extend_from_slice-2.ensures.items, c.in_ok-write_iterators.ensures, c.in_ok-extend_from_slice.ensures.items, c.in_ok-write_maps.ensures, append_assoc)
