use Rattle.std.proofs.Common.{sym, ◌∙◌}
use Rattle.checked_edits.proofs.Kept.{kept_verifies}
use Rattle.checked_edits.proofs.Small.{types_left}
use Rattle.checked_edits.proofs.replacing.within_limits.Goals as goal

pub from_verified-requires : goal.from_verified-requires
from_verified-requires c = kept_verifies c.args.m c.requires (types_left c.args.m.funcs (sym c.first_passed.ensures ∙ c.in-None.is))
