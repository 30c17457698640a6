use Rattle.std.proofs.Common.{drop, ◌↔◌}
use Rattle.index_forms.specs.Facts.{AllDiffer}
use Rattle.index_forms.proofs.facts.all_differ.Given as goal

abbrev pub invariant-loop-other : goal.invariant-loop-other
invariant-loop-other l = AllDiffer l.f l.others ↔ AllDiffer l.f (drop l.other-index l.others)
