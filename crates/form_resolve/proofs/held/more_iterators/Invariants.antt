use Rattle.std.proofs.Common.{◌≡◌, ◌+◌, length, drop}
use Rattle.mlir_lex.proofs.Loops.{onto}
use Rattle.form_resolve.specs.Entries.{iterators_from, behind}
use Rattle.form_resolve.proofs.held.more_iterators.Given as goal

abbrev pub invariant-loop-next : goal.invariant-loop-next
invariant-loop-next l = record { found : onto l.found (iterators_from l.number (drop l.next-index l.more)) ≡ behind l.fn.iterators (iterators_from (length l.fn.iterators) l.more); number : l.number ≡ length l.fn.iterators + l.next-index }
