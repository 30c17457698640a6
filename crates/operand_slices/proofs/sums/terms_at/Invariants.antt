use Rattle.std.proofs.Common.{◌≡◌, ◌++◌, drop}
use Rattle.operand_slices.specs.Slices.{terms_at}
use Rattle.operand_slices.proofs.sums.terms_at.Given as goal

abbrev pub invariant-loop-term : goal.invariant-loop-term
invariant-loop-term l = l.all ++ terms_at (drop l.term-index l.terms) l.entries ≡ terms_at l.terms l.entries
