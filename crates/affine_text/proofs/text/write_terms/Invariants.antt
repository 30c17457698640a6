use Rattle.std.proofs.Common.{◌≡◌, ◌++◌, drop}
use Rattle.affine_text.specs.Text.{terms_text}
use Rattle.affine_text.proofs.text.write_terms.Given as goal

abbrev pub invariant-loop-term : goal.invariant-loop-term
invariant-loop-term l = l.out.items ++ terms_text (drop l.term-index l.terms) ≡ l.initial.out.items ++ terms_text l.terms
