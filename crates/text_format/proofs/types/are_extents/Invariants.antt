use Rattle.std.proofs.Common.{◌≡◌, length, None}
use Rattle.text_format.specs.Types.{is_some, extents_in}
use Rattle.text_format.proofs.types.are_extents.Given as goal

abbrev pub invariant-loop-rest : goal.invariant-loop-rest
invariant-loop-rest l = is_some (extents_in l.rest None) ≡ is_some (extents_in l.fn.inside None)

abbrev pub decreases-loop-rest : goal.decreases-loop-rest
decreases-loop-rest l = length l.rest
