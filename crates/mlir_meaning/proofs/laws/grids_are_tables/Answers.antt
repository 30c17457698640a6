use Rattle.mlir_meaning.proofs.Grids.{at-tabulate, at-outside, tabulated, each_point, point_at, places_of_points}
use Rattle.mlir_meaning.proofs.laws.grids_are_tables.Goals as goal

pub returns-clause-table : goal.returns-clause-table
returns-clause-table c = at-tabulate

pub returns-clause-outside : goal.returns-clause-outside
returns-clause-outside c = at-outside

pub returns-clause-own_table : goal.returns-clause-own_table
returns-clause-own_table c = tabulated

pub returns-clause-inside : goal.returns-clause-inside
returns-clause-inside c = each_point

pub returns-clause-in_order : goal.returns-clause-in_order
returns-clause-in_order c = point_at

pub returns-clause-places : goal.returns-clause-places
returns-clause-places c = places_of_points
