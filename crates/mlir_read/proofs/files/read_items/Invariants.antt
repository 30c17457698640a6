use Rattle.std.proofs.Common.{◌≡◌, drop}
use Rattle.mlir_lex.specs.Chain.{behind_these}
use Rattle.mlir_read.specs.Resolve.{items_of, IsFileSound}
use Rattle.mlir_read.proofs.files.read_items.Given as goal

abbrev pub invariant-loop-item : goal.invariant-loop-item
invariant-loop-item l = record { found : behind_these l.found (items_of l.scope (drop l.item-index l.items)) ≡ items_of l.fn.scope l.items; sound : IsFileSound l.scope }
