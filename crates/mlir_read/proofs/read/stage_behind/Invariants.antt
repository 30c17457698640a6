use Rattle.std.proofs.Common.{◌≡◌, drop}
use Rattle.mlir_read.specs.declared.files.Stage.TheVariants.{Start}
use Rattle.mlir_read.specs.Reading.{stage_behind}
use Rattle.mlir_read.proofs.read.stage_behind.Given as goal

abbrev pub invariant-loop-item : goal.invariant-loop-item
invariant-loop-item l = stage_behind l.stage (drop l.item-index l.items) ≡ stage_behind Start l.items
