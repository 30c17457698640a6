use Rattle.std.proofs.Common.{◌≡◌, drop}
use Rattle.text_format.specs.declared.types.Part.TheVariants.{Start}
use Rattle.text_format.specs.Types.{element_at}
use Rattle.text_format.proofs.types.element_at.Given as goal

abbrev pub invariant-loop-i : goal.invariant-loop-i
invariant-loop-i l = element_at (drop l.i l.inside) l.part ≡ element_at l.fn.inside Start
