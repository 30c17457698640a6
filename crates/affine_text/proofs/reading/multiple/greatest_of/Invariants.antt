use Rattle.std.proofs.Common.{◌≡◌, drop}
use Rattle.affine_text.specs.Multiples.{greatest_from, greatest_of}
use Rattle.affine_text.proofs.reading.multiple.greatest_of.Given as goal

abbrev pub invariant-loop-term : goal.invariant-loop-term
invariant-loop-term l = greatest_from l.greatest (drop l.term-index l.form.terms) ≡ greatest_of l.form
