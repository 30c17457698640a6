use Rattle.std.proofs.Common.{◌≡◌, ◌++◌, drop}
use Rattle.mlir_print.specs.Maps.{linear_terms}
use Rattle.mlir_print.proofs.linear.linear_terms.Given as goal

abbrev pub invariant-loop-term : goal.invariant-loop-term
invariant-loop-term l = record {
  same : l.dimension ≡ l.term-index;
  collected : l.all ++ linear_terms l.dimension (drop l.term-index l.terms) ≡ linear_terms 0 l.terms;
}
