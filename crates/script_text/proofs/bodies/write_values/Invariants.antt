use Rattle.std.proofs.Common.{◌≡◌, ◌++◌, [], drop}
use Rattle.script_text.specs.Texts.{values_text}
use Rattle.script_text.proofs.bodies.write_values.Given as goal

abbrev pub invariant-loop-value : goal.invariant-loop-value
invariant-loop-value l = l.out.items ++ values_text l.before (drop l.value-index l.values) ≡ l.fn.out.items ++ values_text [] l.values
