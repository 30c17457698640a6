use Rattle.std.proofs.Common.{◌≡◌, drop}
use Rattle.mlir_resolve.specs.Generics.{iterators_from}
use Rattle.mlir_lex.proofs.Loops.{onto}
use Rattle.mlir_resolve.proofs.generics.read_iterators.Given as goal

abbrev pub invariant-loop-iterator : goal.invariant-loop-iterator
invariant-loop-iterator l = record { found : onto l.found (iterators_from l.number (drop l.iterator-index l.iterators)) ≡ iterators_from 0 l.iterators; number : l.number ≡ l.iterator-index }
