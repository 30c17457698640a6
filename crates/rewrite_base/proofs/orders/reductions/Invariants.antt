use Rattle.std.proofs.Common.{◌≡◌, ◌++◌, drop}
use Rattle.structured_steps.specs.Interchange.{reductions_in}
use Rattle.rewrite_base.proofs.orders.reductions.Given as goal

abbrev pub invariant-loop-d : goal.invariant-loop-d
invariant-loop-d l = l.all ++ reductions_in l.iterators (drop l.d-index l.order) ≡ reductions_in l.iterators l.order
