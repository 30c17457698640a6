use Rattle.std.proofs.Common.{◌<◌, length, take, arith, rules, ◌∙◌}
use Rattle.payload_ops.proofs.StepsLemmas.{steps_values-more, steps_values-trap}
use Rattle.std.proofs.lemmas.Result.{err_from_is_err_and}
use Rattle.payload_ops.specs.Values.{Given}
use Rattle.payload_ops.proofs.evaluation.eval.Goals as goal

pub returns-in_err-value-clause-value : goal.returns-in_err-value-clause-value
returns-in_err-value-clause-value c =
    let g : Given = record { point = c.args.point.now; outer = c.args.outer.now; ins = c.args.ins.now; out = c.args.out } in
    let steps = c.as_slice-step-items.ensures ∙ c.steps.ensures.value in
    let more = rw steps at c.loop-i-test.true in
    let item = rw steps at c.step-item.is in
    let exit = err_from_is_err_and c.from_residual.result c.from_residual.ensures.1 in
    rw exit.1 (steps_values-trap c.args.p.now g (take c.loop-i.i c.loop-i.scratch) c.loop-i.i c.step-item.result more item c.loop-i.invariant.values c.in_err-value.ensures)

pub loop-i-preserved : goal.loop-i-preserved
loop-i-preserved c =
    let g : Given = record { point = c.args.point.now; outer = c.args.outer.now; ins = c.args.ins.now; out = c.args.out } in
    let steps = c.as_slice-step-items.ensures ∙ c.steps.ensures.value in
    let more = rw steps at c.loop-i-test.true in
    let item = rw steps at c.step-item.is in
    let room : c.loop-i.i < length c.loop-i.scratch = omega (arith, more) in
    record {
      room = search rules;
      values = steps_values-more c.args.p.now g c.loop-i.scratch c.loop-i.i c.in_ok-value.value c.step-item.result more room item c.loop-i.invariant.values c.in_ok-value.ensures;
    }
