use Rattle.std.proofs.Common.{◌≡◌, ◌∙◌, ◌<◌, ◌+◌, List, length, ap, sym, subst}
use Rattle.transform_handles.specs.declared.target.Target.{Target}
use Rattle.script_run.proofs.Agreeing.{Through, begins, goes_on, same_default}
use Rattle.script_run.proofs.fusing.fuse_each.Goals as goal

pub loop-t-init : goal.loop-t-init
loop-t-init c =
    subst (λ (ts : List Target). Through c.args.targets.now c.args.c c.args.c ts 0) (sym c.new-given.ensures) (begins c.args.targets.now c.args.c c.requires.stand)

pub loop-t-preserved : goal.loop-t-preserved
loop-t-preserved c =
    let l : c.loop-t.t-index < length c.args.targets.now = c.loop-t-test.true in
    subst (λ (ts : List Target). Through c.args.targets.now c.args.c c.in-Ok.next ts (c.loop-t.t-index + 1)) (sym c.in-Ok-push.ensures.ok)
    (goes_on c.args.targets.now c.args.c c.loop-t.module c.in-Ok.next c.loop-t.given c.loop-t.t-index _ l
    (same_default c.args.targets.now c.loop-t.t-index _ _ l) c.loop-t.invariant c.in-Ok.ensures)
