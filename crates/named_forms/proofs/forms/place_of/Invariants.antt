use Rattle.std.proofs.Common.{◌≡◌, drop}
use Rattle.mlir_meaning.specs.Points.{place_of}
use Rattle.named_forms.proofs.forms.place_of.Given as goal

abbrev pub invariant-loop-place : goal.invariant-loop-place
invariant-loop-place l = place_of l.axis l.place (drop l.place l.order) ≡ place_of l.axis 0 l.order
