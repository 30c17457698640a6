use Rattle.std.proofs.Common.{drop, ◌↔◌}
use Rattle.index_forms.specs.Same.{NoneFrom}
use Rattle.index_forms.proofs.facts.none_from.Given as goal

abbrev pub invariant-loop-atom : goal.invariant-loop-atom
invariant-loop-atom l = NoneFrom l.count l.atoms l.terms ↔ NoneFrom l.count (drop l.atom-index l.atoms) l.terms
