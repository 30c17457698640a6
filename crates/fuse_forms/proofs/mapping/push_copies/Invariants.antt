use Rattle.std.proofs.Common.{◌≡◌, ◌++◌, drop}
use Rattle.fuse_forms.proofs.mapping.push_copies.Given as goal

abbrev pub invariant-loop-map : goal.invariant-loop-map
invariant-loop-map l = l.all ++ drop l.map-index l.maps ≡ l.fn.all ++ l.maps
