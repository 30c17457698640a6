use Rattle.std.proofs.Common.{◌≡◌, take, map}
use Rattle.form_resolve.specs.Entries.{as_piece}
use Rattle.form_resolve.proofs.held.copy_pieces.Given as goal

abbrev pub invariant-loop-piece : goal.invariant-loop-piece
invariant-loop-piece l = l.copies ≡ map as_piece (take l.piece-index l.pieces)
