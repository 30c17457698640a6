use Rattle.std.proofs.Common.{◌≡◌}
use Rattle.affine_maps.specs.Map.{dimensions}
use Rattle.named_forms.proofs.forms.dimensions.Given as goal

abbrev pub invariant-loop-k : goal.invariant-loop-k
invariant-loop-k l = l.all ≡ dimensions l.k
