use Rattle.std.proofs.Common.{◌≡◌, ◌<◌, ◌-◌, ◌+◌, ◌++◌, List, ℕ, ap, ◌∙◌, arith}
use Rattle.script_text.specs.Texts.{repeated}
use Rattle.script_text.proofs.Repeats.{repeated_once}
use Rattle.script_text.proofs.bodies.write_repeated.Goals as goal

pub loop-turn-preserved : goal.loop-turn-preserved
loop-turn-preserved c =
    let more : c.loop-turn._turn < c.args.count = omega arith in
    ap (λ (x : List ℕ). x ++ repeated (c.args.count - (c.loop-turn._turn + 1)) c.args.text.now) c.in_ok-extend_from_slice.ensures.items
    ∙ repeated_once c.loop-turn.out.items c.args.text.now c.loop-turn._turn c.args.count (c.args.out.now.items ++ repeated c.args.count c.args.text.now) more c.loop-turn.invariant
