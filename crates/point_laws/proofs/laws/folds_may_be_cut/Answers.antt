use Rattle.point_laws.proofs.Stated.{any_order, in_parts, combiners_swap}
use Rattle.point_laws.proofs.Combiners.{neutral_anywhere}
use Rattle.point_laws.proofs.laws.folds_may_be_cut.Goals as goal

pub returns-clause-order : goal.returns-clause-order
returns-clause-order c = any_order

pub returns-clause-parts : goal.returns-clause-parts
returns-clause-parts c = in_parts

pub returns-clause-combiners : goal.returns-clause-combiners
returns-clause-combiners c = combiners_swap

pub returns-clause-neutral : goal.returns-clause-neutral
returns-clause-neutral c = neutral_anywhere
