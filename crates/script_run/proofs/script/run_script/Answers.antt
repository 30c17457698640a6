use Rattle.std.proofs.Common.{◌≡◌, ◌∙◌, ◌<◌, ◌≤◌, List, length, get_or, Ok, ap, sym, subst, arith}
use Rattle.mlir_ir.specs.declared.tree.Module.{Module}
use Rattle.script_read.specs.declared.script.Step.{Step}
use Rattle.script_run.proofs.Agreeing.{run_stops, run_ends}
use Rattle.script_run.proofs.Meanings.{run_keeps_functions}
use Rattle.script_run.proofs.script.run_script.Goals as goal

pub returns-in-Err-apply-clause-runs : goal.returns-in-Err-apply-clause-runs
returns-in-Err-apply-clause-runs c =
    let s = c.args.s.now in
    let k = c.loop-before.before in
    let t = c.step-item.result in
    let l : k < length s.steps = omega (arith, c.loop-before-test.true, ap length c.as_slice-step-items.ensures) in
    let here = subst (λ (ss : List Step). t ≡ get_or ss k t) c.as_slice-step-items.ensures c.step-item.is in
    run_stops s c.args.c c.loop-before.session k c.told.result t c.in-Err-apply.why l here c.loop-before.invariant c.told.ensures c.in-Err-apply.ensures.1

pub returns-clause-runs : goal.returns-clause-runs
returns-clause-runs c =
    let s = c.args.s.now in
    let k = c.loop-before.before in
    let l : length s.steps ≤ k = omega (arith, c.loop-before-test.false, ap length c.as_slice-step-items.ensures) in
    run_ends s c.args.c c.loop-before.session k l c.loop-before.invariant ∙ ap (λ (m : Module). Ok m) (sym c.into_module.ensures.same)

pub returns-clause-means : goal.returns-clause-means
returns-clause-means c = (run_keeps_functions c.args.s.now c.args.c c.into_module.result c.in-Ok.ensures.verified (returns-clause-runs c)).1
