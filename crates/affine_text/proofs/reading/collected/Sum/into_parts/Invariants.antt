use Rattle.std.proofs.Common.{◌≡◌}
use Rattle.affine_text.proofs.reading.collected.Sum.into_parts.Given as goal

abbrev pub invariant-loop-dimension : goal.invariant-loop-dimension
invariant-loop-dimension l = l.terms ≡ l.yielded
