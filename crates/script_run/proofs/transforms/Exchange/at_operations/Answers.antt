use Rattle.std.proofs.Common.{◌≡◌, ◌∙◌, true, List, map, ap, sym, subst, length, Err, arith}
use Rattle.mlir_ir.specs.declared.tree.OpId.{OpId}
use Rattle.step_passes.specs.Answered.{Answered}
use Rattle.step_passes.specs.Sequences as pass
use Rattle.transform_handles.specs.declared.target.Target.TheVariants.{Operation}
use Rattle.script_run.specs.Transforms.{exchanging_of, front}
use Rattle.script_run.proofs.Agreeing.{front_targets, pass_gives, pass_meets_another, pass_refused, all_operations, not_all_operations}
use Rattle.script_run.proofs.transforms.Exchange.at_operations.Goals as goal

pub in_one_pass-requires : goal.in_one_pass-requires
in_one_pass-requires c =
    subst (λ (is : List OpId). pass.are_targets c.args.c is ≡ true) (sym (c.as_slice.ensures ∙ c.in-Ok.ensures)) (front_targets c.args.c c.args.targets.now c.requires.stand)

pub returns-in-Err-in_one_pass : goal.returns-in-Err-in_one_pass
returns-in-Err-in_one_pass c =
    pass_refused c.args.self.now c.args.targets.now c.args.c c.requires.verified c.requires.stand c.in-Err-in_one_pass.e
    (subst (λ (is : List OpId). Answered (Err c.in-Err-in_one_pass.e) (pass.at_each (pass.exchanged_at (exchanging_of c.args.self.now)) is c.args.c)) (c.as_slice.ensures ∙ c.in-Ok.ensures)
    c.in-Err-in_one_pass.ensures)

pub returns-then-len-targets : goal.returns-then-len-targets
returns-then-len-targets c =
    let ops = c.as_slice.ensures ∙ c.in-Ok.ensures in
    pass_meets_another c.args.self.now c.args.targets.now c.args.c c.requires.verified c.requires.stand c.in-Ok-in_one_pass.formed.0 c.in-Ok-in_one_pass.formed.1
    (ap (λ (is : List OpId). pass.at_each (pass.exchanged_at (exchanging_of c.args.self.now)) is c.args.c) (sym ops) ∙ c.in-Ok-in_one_pass.ensures)
    (not_all_operations c.args.targets.now (λ e. omega (arith, c.if-len-targets.true, c.len.ensures, ap length c.in-Ok.ensures, e)))

pub returns-in-Ok-as_targets : goal.returns-in-Ok-as_targets
returns-in-Ok-as_targets c =
    let ops = c.as_slice.ensures ∙ c.in-Ok.ensures in
    pass_gives c.args.self.now c.args.targets.now c.args.c c.requires.verified c.requires.stand c.in-Ok-in_one_pass.formed.0 c.in-Ok-in_one_pass.formed.1 c.in-Ok-as_targets.given
    (ap (λ (is : List OpId). pass.at_each (pass.exchanged_at (exchanging_of c.args.self.now)) is c.args.c) (sym ops) ∙ c.in-Ok-in_one_pass.ensures)
    (all_operations c.args.targets.now (omega (arith, c.if-len-targets.false, c.len.ensures, ap length c.in-Ok.ensures)))
    (c.in-Ok-as_targets.ensures ∙ ap (map Operation) c.as_slice-2.ensures)
