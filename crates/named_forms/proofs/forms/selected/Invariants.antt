use Rattle.std.proofs.Common.{◌≡◌, ◌++◌, drop, map}
use Rattle.affine_maps.specs.Map.{dimension}
use Rattle.named_forms.proofs.forms.selected.Given as goal

abbrev pub invariant-loop-d : goal.invariant-loop-d
invariant-loop-d l = l.all ++ map dimension (drop l.d-index l.ds) ≡ map dimension l.ds
