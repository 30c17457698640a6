use Rattle.std.proofs.Common.{◌∙◌, sym, ap}
use Rattle.text_format.specs.Types.{is_some}
use Rattle.text_format.proofs.Extents.{behind_other, shorter, still_some}
use Rattle.text_format.proofs.types.are_extents.Goals as goal

pub returns-then-not-begins_with_x : goal.returns-then-not-begins_with_x
returns-then-not-begins_with_x c =
    sym (ap is_some (behind_other c.loop-rest.rest.now c.number_at.result.1.now (sym c.begins_with_digit.ensures ∙ c.loop-rest-test.true) c.number_at.ensures.rest (sym c.begins_with_x.ensures ∙ c.if-not-begins_with_x.true))) ∙ c.loop-rest.invariant

pub loop-rest-smaller : goal.loop-rest-smaller
loop-rest-smaller c =
    rw c.split_at.ensures.back (shorter c.loop-rest.rest.now c.number_at.result.1.now c.number_at.ensures.rest (sym c.begins_with_x.ensures ∙ c.if-not-begins_with_x.false))

pub loop-rest-preserved : goal.loop-rest-preserved
loop-rest-preserved c =
    rw c.split_at.ensures.back (still_some c.loop-rest.rest.now c.number_at.result.1.now _ (sym c.begins_with_digit.ensures ∙ c.loop-rest-test.true) c.number_at.ensures.rest (sym c.begins_with_x.ensures ∙ c.if-not-begins_with_x.false) c.loop-rest.invariant)
