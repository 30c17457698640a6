use Rattle.region_laws.proofs.Extents.{tile_box_is}
use Rattle.region_laws.proofs.Operands.{operand_is}
use Rattle.region_laws.proofs.Records.{operands_are_records}
use Rattle.region_laws.proofs.Sliced.{slice_of_whole, slice_of_result}
use Rattle.region_laws.proofs.Stated.{tiled_generic, typed_instance}
use Rattle.region_laws.proofs.TileLoops.{tiles_add}
use Rattle.region_laws.proofs.laws.generics_have_tiles.Goals as goal

pub returns-clause-typed : goal.returns-clause-typed
returns-clause-typed c = typed_instance

pub returns-clause-operands : goal.returns-clause-operands
returns-clause-operands c = operand_is

pub returns-clause-records : goal.returns-clause-records
returns-clause-records c = operands_are_records

pub returns-clause-box_of : goal.returns-clause-box_of
returns-clause-box_of c = tile_box_is

pub returns-clause-tile : goal.returns-clause-tile
returns-clause-tile c = tiled_generic

pub returns-clause-adds : goal.returns-clause-adds
returns-clause-adds c = tiles_add

pub returns-clause-slice : goal.returns-clause-slice
returns-clause-slice c = slice_of_whole

pub returns-clause-result : goal.returns-clause-result
returns-clause-result c = slice_of_result
