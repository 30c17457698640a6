use Rattle.affine_text.proofs.OneReading.{map_and_map, map_and_fault, fault_and_fault, two_answers}
use Rattle.affine_text.proofs.OneTree.{one_tree}
use Rattle.affine_text.proofs.laws.one_reading.Goals as goal

pub returns-clause-map : goal.returns-clause-map
returns-clause-map c = map_and_map

pub returns-clause-no_fault : goal.returns-clause-no_fault
returns-clause-no_fault c = map_and_fault

pub returns-clause-fault : goal.returns-clause-fault
returns-clause-fault c = fault_and_fault

pub returns-clause-answer : goal.returns-clause-answer
returns-clause-answer c = two_answers

pub returns-clause-tree : goal.returns-clause-tree
returns-clause-tree c = one_tree
