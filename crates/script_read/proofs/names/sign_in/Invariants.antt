use Rattle.std.proofs.Common.{◌≡◌, ◌==◌, drop}
use Rattle.std.specs.List.{position_from}
use Rattle.script_read.proofs.names.sign_in.Given as goal

abbrev pub invariant-loop-at : goal.invariant-loop-at
invariant-loop-at l = position_from (λ b. b == 35) l.at (drop l.at l.text) ≡ position_from (λ b. b == 35) 0 l.text
