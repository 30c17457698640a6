use Rattle.std.proofs.Common.{◌≡◌, drop}
use Rattle.affine_text.specs.Feeding.{first_reader}
use Rattle.affine_text.specs.OfTokens.{read_all, last_start}
use Rattle.affine_text.proofs.reading.parse.map_of.Given as goal

abbrev pub invariant-loop-token : goal.invariant-loop-token
invariant-loop-token l = record { read : read_all (drop l.token-index l.tokens) l.reader ≡ read_all l.tokens (first_reader l.symbols); last : last_start (drop l.token-index l.tokens) l.last ≡ last_start l.tokens 0 }
