use Rattle.std.proofs.Common.{◌≡◌, ◌++◌, drop}
use Rattle.mlir_resolve.specs.Constants.{shape_marks}
use Rattle.mlir_resolve.proofs.dense.shape_marks.Given as goal

abbrev pub invariant-loop-piece : goal.invariant-loop-piece
invariant-loop-piece l = l.found ++ shape_marks (drop l.piece-index l.pieces) ≡ shape_marks l.pieces
