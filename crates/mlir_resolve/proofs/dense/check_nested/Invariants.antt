use Rattle.std.proofs.Common.{◌≡◌, drop}
use Rattle.mlir_resolve.specs.declared.dense.Wanted.TheVariants.{Whole}
use Rattle.mlir_resolve.specs.Constants.{nested_from}
use Rattle.mlir_resolve.proofs.dense.check_nested.Given as goal

abbrev pub invariant-loop-piece : goal.invariant-loop-piece
invariant-loop-piece l = nested_from l.close l.wanted l.depth (drop l.piece-index l.pieces) ≡ nested_from l.close Whole 0 l.pieces
