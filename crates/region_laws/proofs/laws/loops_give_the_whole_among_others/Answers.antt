use Rattle.region_laws.proofs.NestsAt.{tile_for_gives}
use Rattle.region_laws.proofs.Shared.{tile_forall_gives, may_start_anywhere}
use Rattle.region_laws.proofs.Spans.{regions_cover, spanned_may_start}
use Rattle.region_laws.proofs.laws.loops_give_the_whole_among_others.Goals as goal

pub returns-clause-nest : goal.returns-clause-nest
returns-clause-nest c = tile_for_gives

pub returns-clause-at_once : goal.returns-clause-at_once
returns-clause-at_once c = tile_forall_gives

pub returns-clause-starts : goal.returns-clause-starts
returns-clause-starts c = may_start_anywhere

pub returns-clause-regions : goal.returns-clause-regions
returns-clause-regions c = regions_cover

pub returns-clause-spanned : goal.returns-clause-spanned
returns-clause-spanned c = spanned_may_start
