use Rattle.affine_text.proofs.Adding.{Adding}
use Rattle.affine_text.proofs.reading.collected.Sum.add_terms.Given as goal

abbrev pub invariant-loop-term : goal.invariant-loop-term
invariant-loop-term l = Adding l.multiple.by l.multiple.form.terms l.term-index l.initial.self l.self
