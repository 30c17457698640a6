use Rattle.std.proofs.Common.{List, length, sym, ap, ◌∙◌, arith}
use Rattle.mlir_ir.specs.declared.tree.Op.{Op}
use Rattle.fuse_elementwise.proofs.Searching.{none_after, op_ends, op_goes}
use Rattle.fuse_elementwise.proofs.finding.first_pair.Goals as goal

pub loop-consumer-preserved : goal.loop-consumer-preserved
loop-consumer-preserved c =
    op_goes c.args.f.now c.as_slice-body.result.now (c.as_slice-body.ensures ∙ (λ j. (c.f.view_is j).body)) c.loop-consumer.consumer c.index-body-consumer.result
    (omega (arith, c.loop-consumer-test.true, c.loop-consumer.auto.consumer-end)) c.index-body-consumer.is (sym c.in-Ok-None.field-0-is ∙ c.in-Ok-None.ensures) c.loop-consumer.invariant

pub returns-in-Ok-Some : goal.returns-in-Ok-Some
returns-in-Ok-Some c =
    op_ends c.args.f.now c.as_slice-body.result.now (c.as_slice-body.ensures ∙ (λ j. (c.f.view_is j).body)) c.loop-consumer.consumer c.index-body-consumer.result
    (omega (arith, c.loop-consumer-test.true, c.loop-consumer.auto.consumer-end)) c.index-body-consumer.is c.in-Ok-Some.found (sym c.in-Ok-Some.field-0-is ∙ c.in-Ok-Some.ensures) c.loop-consumer.invariant

pub returns : goal.returns
returns c =
    let same = ap (λ (os : List Op). length os) (c.as_slice-body.ensures ∙ (λ j. (c.f.view_is j).body)) in
    none_after c.args.f.now c.loop-consumer.consumer (omega (arith, same, c.loop-consumer-test.false, c.loop-consumer.auto.consumer-end)) c.loop-consumer.invariant
