use Rattle.std.proofs.Common.{◌∙◌, sym, ap}
use Rattle.text_format.specs.Types.{ranked_from}
use Rattle.text_format.proofs.Extents.{onto_shape, behind_other, shorter, goes_on}
use Rattle.text_format.proofs.types.extents_inside.Goals as goal

pub returns-then-not-begins_with_x : goal.returns-then-not-begins_with_x
returns-then-not-begins_with_x c =
    sym (ap (λ o. onto_shape c.loop-rest.extents (ranked_from o)) (behind_other c.loop-rest.rest.now c.number_at-number.result.1.now (sym c.begins_with_digit.ensures ∙ c.loop-rest-test.true) c.number_at-number.ensures.rest (sym c.begins_with_x.ensures ∙ c.if-not-begins_with_x.true))) ∙ c.loop-rest.invariant

pub loop-rest-smaller : goal.loop-rest-smaller
loop-rest-smaller c =
    rw c.split_at.ensures.back (shorter c.loop-rest.rest.now c.number_at-number.result.1.now c.number_at-number.ensures.rest (sym c.begins_with_x.ensures ∙ c.if-not-begins_with_x.false))

pub loop-rest-preserved : goal.loop-rest-preserved
loop-rest-preserved c =
    rw (c.split_at.ensures.back, c.in_ok-push.ensures.ok) (goes_on c.loop-rest.extents _ c.loop-rest.rest.now c.number_at-number.result.1.now c.number_at-number.result.0 _ (sym c.begins_with_digit.ensures ∙ c.loop-rest-test.true) c.number_at-number.ensures.number c.number_at-number.ensures.rest (sym c.begins_with_x.ensures ∙ c.if-not-begins_with_x.false) c.extent_of.ensures c.loop-rest.invariant)
