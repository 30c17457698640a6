use Rattle.std.proofs.Common.{◌≡◌, ◌++◌, ◌-◌}
use Rattle.mlir_meaning.specs.Grids.{count_up}
use Rattle.mlir_meaning.specs.Points.{kept}
use Rattle.named_forms.proofs.forms.kept_axes.Given as goal

abbrev pub invariant-loop-k : goal.invariant-loop-k
invariant-loop-k l = l.all ++ kept l.named l.k (count_up l.k (l.n - l.k)) ≡ kept l.named 0 (count_up 0 l.n)
