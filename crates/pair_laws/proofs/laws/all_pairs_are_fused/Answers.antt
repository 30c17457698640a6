use Rattle.pair_laws.proofs.Boxes.{fits_keeps_box}
use Rattle.pair_laws.proofs.Ending.{fuse_all_ends}
use Rattle.pair_laws.proofs.Keeping.{fuse_all_passes, fuse_all_keeps}
use Rattle.pair_laws.proofs.laws.all_pairs_are_fused.Goals as goal

pub returns-clause-box_of : goal.returns-clause-box_of
returns-clause-box_of c = fits_keeps_box

pub returns-clause-ends : goal.returns-clause-ends
returns-clause-ends c = fuse_all_ends

pub returns-clause-passes : goal.returns-clause-passes
returns-clause-passes c = fuse_all_passes

pub returns-clause-keeps : goal.returns-clause-keeps
returns-clause-keeps c = fuse_all_keeps
