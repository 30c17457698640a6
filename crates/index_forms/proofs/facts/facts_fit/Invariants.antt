use Rattle.std.proofs.Common.{◌≡◌, ◌++◌, take, drop, ◌↔◌, map}
use Rattle.index_forms.specs.Facts.{FactsFrom, normal_fact, normal_facts}
use Rattle.index_forms.proofs.facts.facts_fit.Given as goal

abbrev pub invariant-loop-fact : goal.invariant-loop-fact
invariant-loop-fact l = record {
  count : l.count ≡ l.fact-index;
  fits : FactsFrom 0 (normal_facts l.fn.facts) ↔ FactsFrom l.count (normal_facts (drop l.fact-index l.fn.facts));
  value : l.facts ≡ map normal_fact (take l.fact-index l.fn.facts) ++ drop l.fact-index l.fn.facts;
}
