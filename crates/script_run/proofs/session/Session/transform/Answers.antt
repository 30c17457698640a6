use Rattle.std.proofs.Common.{◌≡◌, ◌∙◌, true, List, sym, subst}
use Rattle.transform_handles.specs.declared.target.Target.{Target}
use Rattle.script_run.specs.Sessions.{are_targets, IsSession}
use Rattle.script_run.specs.Steps.{moved_on}
use Rattle.script_run.proofs.Agreeing.{moved_session}
use Rattle.script_run.proofs.session.Session.transform.Goals as goal

pub move_on-requires : goal.move_on-requires
move_on-requires c =
    let x = c.args.self.now in
    let ts = c.as_slice.result.now in
    let stand = subst (λ (us : List Target). are_targets x.module us ≡ true) (sym c.as_slice.ensures) c.in-Ok.ensures.stand in
    let all = moved_session c.args.step.now ts c.in-Ok-formed.formed.1 c.args.results.now x c.in-Ok-formed.formed.0 c.in-Ok-one_row.rows.items c.in-Ok.ensures.session stand c.in-Ok-formed.ensures c.in-Ok-one_row.ensures in
    subst (λ (us : List Target). IsSession (moved_on us c.in-Ok-formed.formed.0 c.in-Ok-one_row.rows.items x)) (c.as_slice.ensures ∙ sym c.as_slice-2.ensures) all
