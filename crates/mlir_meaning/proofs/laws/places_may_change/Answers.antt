use Rattle.mlir_meaning.proofs.Removed.{in_place, removal}
use Rattle.mlir_meaning.proofs.laws.places_may_change.Goals as goal

pub returns-clause-in_place : goal.returns-clause-in_place
returns-clause-in_place c = in_place

pub returns-clause-removal : goal.returns-clause-removal
returns-clause-removal c = removal
