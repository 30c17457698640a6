use Rattle.std.proofs.Common.{◌≡◌, ◌++◌, ◌-◌, map}
use Rattle.mlir_meaning.specs.Grids.{count_up}
use Rattle.mlir_meaning.specs.Points.{place_of}
use Rattle.named_forms.proofs.forms.places_of.Given as goal

abbrev pub invariant-loop-k : goal.invariant-loop-k
invariant-loop-k l = l.all ++ map (λ axis. place_of axis 0 l.order) (count_up l.k (l.n - l.k)) ≡ map (λ axis. place_of axis 0 l.order) (count_up 0 l.n)
