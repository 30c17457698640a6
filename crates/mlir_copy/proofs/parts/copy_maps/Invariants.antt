use Rattle.std.proofs.Common.{◌≡◌, take}
use Rattle.mlir_copy.proofs.parts.copy_maps.Given as goal

abbrev pub invariant-loop-map : goal.invariant-loop-map
invariant-loop-map l = l.copies ≡ take l.map-index l.maps
