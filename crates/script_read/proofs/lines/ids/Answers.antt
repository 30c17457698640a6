use Rattle.std.proofs.Common.{◌≡◌, ◌<◌, ◌++◌, ◌-◌, ◌+◌, List, ap, ◌∙◌, arith}
use Rattle.script_read.specs.declared.script.HandleId.{HandleId}
use Rattle.script_read.specs.Resolve.{ids}
use Rattle.script_read.proofs.Ids.{ids_onto}
use Rattle.script_read.proofs.lines.ids.Goals as goal

pub loop-number-preserved : goal.loop-number-preserved
loop-number-preserved c =
    let more : c.loop-number.number < c.args.end = omega arith in
    ap (λ (x : List HandleId). x ++ ids (c.loop-number.number + 1) (c.args.end - (c.loop-number.number + 1))) c.in_ok-push.ensures.ok
    ∙ ids_onto c.loop-number.found c.loop-number.number c.args.end (ids c.args.first (c.args.end - c.args.first)) more c.loop-number.invariant
