use Rattle.std.proofs.Common.{◌≡◌, take}
use Rattle.std.specs.Prelude.{map}
use Rattle.std.specs.List.{zip}
use Rattle.operand_slices.specs.Slices.{axis_slice}
use Rattle.operand_slices.proofs.slicing.axes_slice.Given as goal

abbrev pub invariant-loop-k : goal.invariant-loop-k
invariant-loop-k l = l.all ≡ take l.k (map (axis_slice l.offsets l.sizes l.tiled) (zip l.exprs l.extents))
