use Rattle.std.proofs.Common.{◌≡◌, ◌++◌, drop}
use Rattle.std.specs.Prelude.{option_copied}
use Rattle.payload_forms.specs.Moved.{blocks}
use Rattle.payload_forms.specs.Names.{indices_of, renamed}
use Rattle.payload_forms.proofs.moving.Moving.push_blocks.Given as goal

abbrev pub invariant-loop-step : goal.invariant-loop-step
invariant-loop-step l =
    let after = blocks (indices_of (option_copied l.self.exprs)) (renamed l.to.inputs l.to.steps.now) in
    l.into ++ after l.next (drop l.step-index l.steps) ≡ l.fn.into ++ after l.first l.steps
