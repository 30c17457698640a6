use Rattle.std.proofs.Common.{◌≡◌, ◌++◌, [], drop}
use Rattle.script_text.specs.Texts.{numbers_text}
use Rattle.script_text.proofs.bodies.write_numbers.Given as goal

abbrev pub invariant-loop-number : goal.invariant-loop-number
invariant-loop-number l = l.out.items ++ numbers_text l.before (drop l.number-index l.numbers) ≡ l.fn.out.items ++ numbers_text [] l.numbers
