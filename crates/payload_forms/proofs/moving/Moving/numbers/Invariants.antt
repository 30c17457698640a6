use Rattle.std.proofs.Common.{◌≡◌, ◌++◌, drop}
use Rattle.std.specs.Prelude.{option_copied}
use Rattle.payload_forms.specs.Moved.{numbers, number_at}
use Rattle.payload_forms.specs.Names.{indices_of}
use Rattle.payload_forms.proofs.moving.Moving.numbers.Given as goal

abbrev pub invariant-loop-step : goal.invariant-loop-step
invariant-loop-step l =
    let after = numbers (indices_of (option_copied l.self.exprs)) (number_at l.self.captured.now) in
    l.all ++ after l.next (drop l.step-index l.steps) ≡ after l.first l.steps
