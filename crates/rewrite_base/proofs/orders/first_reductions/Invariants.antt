use Rattle.std.proofs.Common.{◌≡◌, ◌++◌, ◌-◌}
use Rattle.mlir_meaning.specs.Grids.{count_up}
use Rattle.structured_steps.specs.Interchange.{reductions_in}
use Rattle.rewrite_base.proofs.orders.first_reductions.Given as goal

abbrev pub invariant-loop-d : goal.invariant-loop-d
invariant-loop-d l = l.all ++ reductions_in l.iterators (count_up l.d (l.n - l.d)) ≡ reductions_in l.iterators (count_up 0 l.n)
