use Rattle.std.proofs.Common.{◌≡◌, true, List, sym, subst, ◌∙◌}
use Rattle.std.specs.List.{list_all}
use Rattle.payload_ops.specs.declared.step.PayloadStep.{PayloadStep}
use Rattle.mlir_print.specs.Maps.{has_map_numbers}
use Rattle.mlir_print.proofs.LinearMaps.{payload_numbers}
use Rattle.mlir_print.proofs.payloads.write_region.Goals as goal

pub write_block-requires : goal.write_block-requires
write_block-requires c =
    subst (λ (ss : List PayloadStep). list_all (λ (s : PayloadStep). has_map_numbers s.op) ss ≡ true) (sym (c.as_slice-2.ensures ∙ c.steps.ensures.value)) (payload_numbers c.args.payload.now c.steps.ensures.kept)
