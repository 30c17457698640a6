use Rattle.std.proofs.Common.{◌≡◌, ◌++◌, drop}
use Rattle.payload_forms.specs.Joined.{numbered_terms}
use Rattle.payload_forms.proofs.moving.numbered_terms.Given as goal

abbrev pub invariant-loop-term : goal.invariant-loop-term
invariant-loop-term l = l.all ++ numbered_terms l.next (drop l.term-index l.terms) ≡ numbered_terms l.first l.terms
