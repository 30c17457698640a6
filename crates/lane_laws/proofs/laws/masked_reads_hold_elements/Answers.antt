use Rattle.lane_laws.proofs.LanePicks.{at-read}
use Rattle.lane_laws.proofs.laws.masked_reads_hold_elements.Goals as goal

pub returns : goal.returns
returns c = at-read
