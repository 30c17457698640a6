use Rattle.std.proofs.Common.{◌≡◌, ◌≤◌, ◌^◌, drop}
use Rattle.std.specs.Str.Parse.{digits_value, digits_value_after}
use Rattle.affine_text.proofs.reading.number.number_of.Given as goal

abbrev pub invariant-loop-digit : goal.invariant-loop-digit
invariant-loop-digit l = record { value : digits_value_after 10 l.number (drop l.digit-index l.digits) ≡ digits_value 10 l.digits; few : l.number ≤ 2 ^ 31 }
