use Rattle.std.proofs.Common.{◌≡◌, ◌++◌, [], drop}
use Rattle.payload_forms.specs.Captured.{used, spots, others}
use Rattle.payload_forms.proofs.placing.Uses.of.Given as goal

abbrev pub invariant-loop-step : goal.invariant-loop-step
invariant-loop-step l = record {
  captured : l.uses.captured ≡ l.captured;
  seen : used l.captured l.uses.seen (drop l.step-index l.rest) ≡ used l.captured [] l.rest;
  spots : l.uses.spots ++ spots l.captured l.uses.next l.uses.seen (drop l.step-index l.rest) ≡ spots l.captured 0 [] l.rest;
  others : l.uses.others ++ others l.captured l.uses.next l.uses.seen (drop l.step-index l.rest) ≡ others l.captured 0 [] l.rest;
}
