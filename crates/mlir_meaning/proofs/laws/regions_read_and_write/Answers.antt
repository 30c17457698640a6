use Rattle.mlir_meaning.proofs.Regions.{slice-slice, at-insert_inside, at-insert_outside, slice-insert, inserts_swap}
use Rattle.mlir_meaning.proofs.laws.regions_read_and_write.Goals as goal

pub returns-clause-slices : goal.returns-clause-slices
returns-clause-slices c = slice-slice

pub returns-clause-within : goal.returns-clause-within
returns-clause-within c = at-insert_inside

pub returns-clause-outside : goal.returns-clause-outside
returns-clause-outside c = at-insert_outside

pub returns-clause-back : goal.returns-clause-back
returns-clause-back c = slice-insert

pub returns-clause-swap : goal.returns-clause-swap
returns-clause-swap c = inserts_swap
