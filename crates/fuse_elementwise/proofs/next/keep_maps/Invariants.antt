use Rattle.std.proofs.Common.{◌≡◌, take, true}
use Rattle.std.specs.List.{list_all}
use Rattle.affine_maps.specs.Map.{map_fits}
use Rattle.fuse_elementwise.proofs.next.keep_maps.Given as goal

abbrev pub invariant-loop-m : goal.invariant-loop-m
invariant-loop-m l = list_all map_fits (take l.m-index l.maps) ≡ true
