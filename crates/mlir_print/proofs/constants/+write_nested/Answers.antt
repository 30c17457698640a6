use Rattle.std.proofs.Common.{◌≡◌, ◌∙◌, ◌++◌, ◌∷◌, [], ◌-◌, ◌+◌, ◌*◌, ap, sym, refl, append_assoc, drop, arith}
use Rattle.mlir_scope.specs.Types.{elements}
use Rattle.mlir_print.specs.Constants.{nested_words, items_words, words_text}
use Rattle.mlir_print.proofs.Nested.{others, before_at, nested_is, elements_is, items_step, items_done, rest_step, rest_done, before_comma, regroup}
use Rattle.mlir_print.proofs.constants.+write_nested.Goals as goal

pub loop-turn-init : goal.loop-turn-init
loop-turn-init t c = (
  ap (λ o. o ++ (words_text (items_words (nested_words c.args.width (others c.args.extents.now)) (elements (others c.args.extents.now)) [] (c.counted-turn-end.result - 0) c.args.cells.now) ++ 93 ∷ [])) c.in_ok-extend_from_slice-in-len1-up.ensures.items
      ∙ append_assoc c.args.out.now.items (91 ∷ []) (words_text (items_words (nested_words c.args.width (others c.args.extents.now)) (elements (others c.args.extents.now)) [] (c.counted-turn-end.result - 0) c.args.cells.now) ++ 93 ∷ [])
      ∙ ap (λ t. c.args.out.now.items ++ t) (sym (nested_is c.args.width c.counted-turn-end.result c.args.extents.now _ c.args.cells.now c.in-len1-up.len_at_least c.counted-turn-end.ensures)),
  ap (λ k. drop k c.args.cells.now) (sym (elements_is c.counted-turn-end.result c.args.extents.now _ c.in-len1-up.len_at_least c.counted-turn-end.ensures)),
  refl,
)

pub loop-turn-preserved : goal.loop-turn-preserved
loop-turn-preserved t c =
    let step = items_step (nested_words c.args.width (others c.args.extents.now)) (elements (others c.args.extents.now)) c.counted-turn-end.result c.loop-turn._turn c.loop-turn.rest.now c.loop-turn-test.true in
    let text : c.write_nested.new.out.items ≡ (c.loop-turn.out.items ++ words_text (before_at c.loop-turn._turn)) ++ words_text (nested_words c.args.width (others c.args.extents.now) c.loop-turn.rest.now) =
    c.in_ok-rest-in-len1-up.ensures.0 ∙ ap (λ x. x ++ words_text (nested_words c.args.width (others c.args.extents.now) c.loop-turn.rest.now)) (c.in_ok-extend_from_slice-in-len1-up-2.ensures.items ∙ ap (λ b. c.loop-turn.out.items ++ b) c.loop-turn.invariant.2) in
    let rest : c.in_ok-rest-in-len1-up.rest.now ≡ drop (elements (others c.args.extents.now)) c.loop-turn.rest.now = c.in_ok-rest-in-len1-up.ensures.1 in (
      ap (λ x. x ++ (words_text (items_words (nested_words c.args.width (others c.args.extents.now)) (elements (others c.args.extents.now)) (before_at (c.loop-turn._turn + 1)) (c.counted-turn-end.result - (c.loop-turn._turn + 1)) c.in_ok-rest-in-len1-up.rest.now) ++ 93 ∷ [])) text
          ∙ ap (λ r. ((c.loop-turn.out.items ++ words_text (before_at c.loop-turn._turn)) ++ words_text (nested_words c.args.width (others c.args.extents.now) c.loop-turn.rest.now)) ++ (words_text (items_words (nested_words c.args.width (others c.args.extents.now)) (elements (others c.args.extents.now)) (before_at (c.loop-turn._turn + 1)) (c.counted-turn-end.result - (c.loop-turn._turn + 1)) r) ++ 93 ∷ [])) rest
          ∙ regroup c.loop-turn.out.items (words_text (before_at c.loop-turn._turn)) (words_text (nested_words c.args.width (others c.args.extents.now) c.loop-turn.rest.now)) _ (93 ∷ [])
          ∙ ap (λ t. c.loop-turn.out.items ++ (t ++ 93 ∷ [])) (sym step)
          ∙ c.loop-turn.invariant.0,
      ap (λ r. drop ((c.counted-turn-end.result - (c.loop-turn._turn + 1)) * elements (others c.args.extents.now)) r) rest
          ∙ rest_step (elements (others c.args.extents.now)) c.counted-turn-end.result c.loop-turn._turn c.loop-turn.rest.now c.loop-turn-test.true
          ∙ c.loop-turn.invariant.1,
      before_comma c.loop-turn._turn,
    )

pub returns-in_ok-extend_from_slice-in-len1-up-3 : goal.returns-in_ok-extend_from_slice-in-len1-up-3
returns-in_ok-extend_from_slice-in-len1-up-3 t c =
    let no = c.loop-turn-test.false in (
      c.in_ok-extend_from_slice-in-len1-up-3.ensures.items
          ∙ ap (λ t. c.loop-turn.out.items ++ (t ++ 93 ∷ [])) (sym (items_done (nested_words c.args.width (others c.args.extents.now)) (elements (others c.args.extents.now)) c.counted-turn-end.result c.loop-turn._turn (before_at c.loop-turn._turn) c.loop-turn.rest.now (omega (arith, no))))
          ∙ c.loop-turn.invariant.0,
      sym (rest_done (elements (others c.args.extents.now)) c.counted-turn-end.result c.loop-turn._turn c.loop-turn.rest.now (omega (arith, no))) ∙ c.loop-turn.invariant.1,
    )
