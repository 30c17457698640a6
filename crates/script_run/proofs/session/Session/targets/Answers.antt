use Rattle.std.proofs.Common.{◌∙◌, Some, List, ap, sym, subst}
use Rattle.transform_handles.specs.Handles.{named}
use Rattle.transform_handles.specs.declared.target.Target.{Target}
use Rattle.script_run.specs.Sessions.{SessionShape, IsSession}
use Rattle.script_run.proofs.Stepping.{named_targets}
use Rattle.script_run.proofs.session.Session.targets.Goals as goal

pub returns-in-Ok-clause-stand : goal.returns-in-Ok-clause-stand
returns-in-Ok-clause-stand c =
    let x = c.args.self.now in
    let s = subst IsSession c.self.view_is c.self.invariant in
    named_targets x.module x.rows c.args.h.0 c.in-Ok.targets s.1
    (ap (λ (y : SessionShape). named y.rows c.args.h.0) (sym c.self.view_is) ∙ sym c.in-Some.ensures ∙ ap (λ (ts : List Target). Some ts) (sym c.in-Ok.ensures))
