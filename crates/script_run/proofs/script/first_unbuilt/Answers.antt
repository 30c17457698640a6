use Rattle.std.proofs.Common.{suc, List, ap, sym, ◌∙◌, length, arith}
use Rattle.std.proofs.lemmas.List.{drop_all}
use Rattle.script_read.specs.declared.script.Step.{Step}
use Rattle.script_run.specs.Scripts.{unbuilt_from}
use Rattle.script_run.proofs.Built.{built_all}
use Rattle.script_run.proofs.script.first_unbuilt.Goals as goal

pub returns-clause-none : goal.returns-clause-none
returns-clause-none c =
    let steps = c.args.s.now.steps in
    let k = c.loop-before.before in
    built_all steps 1 (sym c.loop-before.invariant ∙ ap (λ (ss : List Step). unbuilt_from ss (suc k)) (drop_all k steps (omega (arith, c.loop-before-test.false, ap length c.as_slice-step-items.ensures))))
