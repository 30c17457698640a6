use Rattle.std.proofs.Common.{◌≡◌, ◌++◌, map, take}
use Rattle.affine_maps.specs.Shape.{MapShape}
use Rattle.affine_maps.specs.Compose.{composed}
use Rattle.fuse_forms.proofs.mapping.push_composed.Given as goal

abbrev pub invariant-loop-m : goal.invariant-loop-m
invariant-loop-m l = l.all ≡ l.fn.all ++ map (λ (m : MapShape). composed m l.inner) (take l.m-index l.maps)
