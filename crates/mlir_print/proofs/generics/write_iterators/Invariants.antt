use Rattle.std.proofs.Common.{◌≡◌, ◌++◌, [], drop}
use Rattle.mlir_print.specs.GenericParts.{iterators_text}
use Rattle.mlir_print.proofs.generics.write_iterators.Given as goal

abbrev pub invariant-loop-iterator : goal.invariant-loop-iterator
invariant-loop-iterator l = l.out.items ++ iterators_text l.before (drop l.iterator-index l.iterators) ≡ l.fn.out.items ++ iterators_text [] l.iterators
