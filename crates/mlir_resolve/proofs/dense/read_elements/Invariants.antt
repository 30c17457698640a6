use Rattle.std.proofs.Common.{◌≡◌, drop, None}
use Rattle.mlir_resolve.specs.Constants.{elements_from}
use Rattle.mlir_lex.proofs.Loops.{onto}
use Rattle.mlir_resolve.proofs.dense.read_elements.Given as goal

abbrev pub invariant-loop-piece : goal.invariant-loop-piece
invariant-loop-piece l = onto l.found (elements_from l.width l.ty l.minus (drop l.piece-index l.pieces)) ≡ elements_from l.width l.ty None l.pieces
