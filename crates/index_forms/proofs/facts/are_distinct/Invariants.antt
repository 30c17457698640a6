use Rattle.std.proofs.Common.{drop, ◌↔◌}
use Rattle.index_forms.specs.Facts.{Distinct}
use Rattle.index_forms.proofs.facts.are_distinct.Given as goal

abbrev pub invariant-loop-i : goal.invariant-loop-i
invariant-loop-i l = Distinct l.facts ↔ Distinct (drop l.i l.facts)
