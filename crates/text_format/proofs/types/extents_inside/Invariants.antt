use Rattle.std.proofs.Common.{◌≡◌, length, None}
use Rattle.text_format.specs.Types.{extents_in, ranked_from}
use Rattle.text_format.proofs.Extents.{onto_shape}
use Rattle.text_format.proofs.types.extents_inside.Given as goal

abbrev pub invariant-loop-rest : goal.invariant-loop-rest
invariant-loop-rest l = onto_shape l.extents (ranked_from (extents_in l.rest None)) ≡ ranked_from (extents_in l.fn.inside None)

abbrev pub decreases-loop-rest : goal.decreases-loop-rest
decreases-loop-rest l = length l.rest
