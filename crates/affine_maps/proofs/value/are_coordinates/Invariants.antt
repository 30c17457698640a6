use Rattle.std.proofs.Common.{◌≡◌, drop}
use Rattle.std.specs.List.{list_all}
use Rattle.affine_maps.specs.Value.{is_coordinate}
use Rattle.affine_maps.proofs.value.are_coordinates.Given as goal

abbrev pub invariant-loop-at : goal.invariant-loop-at
invariant-loop-at l = list_all is_coordinate l.point ≡ list_all is_coordinate (drop l.at-index l.point)
