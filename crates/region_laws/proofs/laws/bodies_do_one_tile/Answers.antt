use Rattle.region_laws.proofs.Foralls.{begins}
use Rattle.region_laws.proofs.Begins.{begins_among}
use Rattle.region_laws.proofs.Records.{inputs_are_records}
use Rattle.region_laws.proofs.Stated.{does_tile, does_whole, notes_one, makes_one, makes_of_slice, inserts_one}
use Rattle.region_laws.proofs.Tilings.{is_noted}
use Rattle.region_laws.proofs.laws.bodies_do_one_tile.Goals as goal

pub returns-clause-nest : goal.returns-clause-nest
returns-clause-nest c = does_tile

pub returns-clause-whole : goal.returns-clause-whole
returns-clause-whole c = does_whole

pub returns-clause-at_once : goal.returns-clause-at_once
returns-clause-at_once c = notes_one

pub returns-clause-begins : goal.returns-clause-begins
returns-clause-begins c = begins

pub returns-clause-begins_among : goal.returns-clause-begins_among
returns-clause-begins_among c = begins_among

pub returns-clause-inputs : goal.returns-clause-inputs
returns-clause-inputs c = inputs_are_records

pub returns-clause-made : goal.returns-clause-made
returns-clause-made c = makes_one

pub returns-clause-of_slice : goal.returns-clause-of_slice
returns-clause-of_slice c = makes_of_slice

pub returns-clause-inserted : goal.returns-clause-inserted
returns-clause-inserted c = inserts_one

pub returns-clause-noted : goal.returns-clause-noted
returns-clause-noted c = is_noted
