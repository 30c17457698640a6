use Rattle.std.proofs.Common.{length}
use Rattle.affine_text.proofs.Parsing.{Standing}
use Rattle.affine_text.proofs.reading.parse.parse_map.Given as goal

abbrev pub invariant-loop-front : goal.invariant-loop-front
invariant-loop-front l = Standing l.text l.reader l.at l.rest

abbrev pub decreases-loop-front : goal.decreases-loop-front
decreases-loop-front l = length l.rest
