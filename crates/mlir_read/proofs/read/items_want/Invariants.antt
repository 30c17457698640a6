use Rattle.std.proofs.Common.{◌≡◌, drop}
use Rattle.mlir_read.specs.declared.files.Stage.TheVariants.{Start}
use Rattle.mlir_read.specs.Reading.{items_want}
use Rattle.mlir_read.proofs.read.items_want.Given as goal

abbrev pub invariant-loop-item : goal.invariant-loop-item
invariant-loop-item l = items_want l.stage (drop l.item-index l.items) l.at ≡ items_want Start l.items l.at
