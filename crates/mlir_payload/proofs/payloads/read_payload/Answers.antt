use Rattle.std.proofs.Common.{List, ap, sym, ◌∙◌}
use Rattle.mlir_base.specs.declared.types.ElemTy.{ElemTy}
use Rattle.mlir_payload.specs.Payload.{parts_of}
use Rattle.mlir_payload.proofs.Fitting.{parts_fit}
use Rattle.mlir_payload.proofs.payloads.read_payload.Goals as goal

pub unreachable-requires : goal.unreachable-requires
unreachable-requires c =
    let e = ap (λ (x : List ElemTy). parts_of c.args.aliases.now c.args.outer.now x c.args.out.now c.args.region.now) (sym c.as_slice.ensures) ∙ c.in_ok-steps.ensures in
    absurd (cc (c.in-None.ensures.valid.1 (parts_fit c.args.aliases.now c.args.outer.now c.args.ins c.args.out.now c.args.region.now (c.in_ok-steps.steps, c.in_ok-steps.yielded) c.are_maps.ensures c.requires.outer e)))
