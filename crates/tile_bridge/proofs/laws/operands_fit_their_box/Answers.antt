use Rattle.tile_bridge.proofs.Stated.{operands_fit, instances_typed, parallel_cuts, tiles_of_payloads}
use Rattle.tile_bridge.proofs.laws.operands_fit_their_box.Goals as goal

pub returns-clause-fits : goal.returns-clause-fits
returns-clause-fits c = operands_fit

pub returns-clause-typed : goal.returns-clause-typed
returns-clause-typed c = instances_typed

pub returns-clause-cuts : goal.returns-clause-cuts
returns-clause-cuts c = parallel_cuts

pub returns-clause-payloads : goal.returns-clause-payloads
returns-clause-payloads c = tiles_of_payloads
