use Rattle.std.proofs.Common.{◌≡◌, ◌++◌, ◌-◌}
use Rattle.script_text.specs.Texts.{repeated}
use Rattle.script_text.proofs.bodies.write_repeated.Given as goal

abbrev pub invariant-loop-turn : goal.invariant-loop-turn
invariant-loop-turn l = l.out.items ++ repeated (l.count - l._turn) l.text ≡ l.fn.out.items ++ repeated l.count l.text
