use Rattle.payload_laws.proofs.Traps.{never_traps}
use Rattle.payload_laws.proofs.laws.no_values_trap.Goals as goal

pub returns : goal.returns
returns c = never_traps
