use Rattle.std.proofs.Common.{◌≡◌, drop}
use Rattle.script_read.specs.Numbers.{number_from, number_of, word_of}
use Rattle.script_read.proofs.numbers.number_of.Given as goal

abbrev pub invariant-loop-digit : goal.invariant-loop-digit
invariant-loop-digit l = word_of (number_from l.number (drop l.digit-index l.text)) ≡ word_of (number_of l.text)
