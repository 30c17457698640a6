use Rattle.std.proofs.Common.{◌≡◌, drop}
use Rattle.mlir_meaning.specs.Points.{has}
use Rattle.named_forms.proofs.forms.has.Given as goal

abbrev pub invariant-loop-n : goal.invariant-loop-n
invariant-loop-n l = has l.named l.axis ≡ has (drop l.n-index l.named) l.axis
