use Rattle.std.proofs.Common.{◌≡◌, true, List, sym, subst, ◌∙◌}
use Rattle.std.specs.List.{list_all}
use Rattle.std.proofs.lemmas.Result.{on_ok_weaker}
use Rattle.payload_ops.specs.declared.step.PayloadStep.{PayloadStep}
use Rattle.mlir_print.specs.Maps.{has_map_numbers}
use Rattle.mlir_print.proofs.LinearMaps.{payload_numbers, texts_append}
use Rattle.mlir_print.proofs.linear.add_generic.Goals as goal

pub add_steps-requires : goal.add_steps-requires
add_steps-requires c =
    subst (λ (ss : List PayloadStep). list_all (λ (s : PayloadStep). has_map_numbers s.op) ss ≡ true) (sym (c.as_slice.ensures ∙ c.steps.ensures.value)) (payload_numbers c.args.payload.now c.steps.ensures.kept)

pub returns : goal.returns
returns c = on_ok_weaker c.add_steps.result (λ e. e ∙ simp (c.in_ok-add_maps.ensures, c.as_slice.ensures, c.steps.ensures.value, texts_append)) c.add_steps.ensures
