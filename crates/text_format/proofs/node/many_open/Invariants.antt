use Rattle.std.proofs.Common.{◌≡◌}
use Rattle.text_format.specs.Formats.{weight, many_at}
use Rattle.text_format.proofs.Loops.{with_front}
use Rattle.text_format.proofs.node.many_open.Given as goal

abbrev pub invariant-loop-alloc : goal.invariant-loop-alloc
invariant-loop-alloc g l = with_front l.items (many_at l.class g.N.OpenTree.format l.parser) ≡ many_at l.class g.N.OpenTree.format l.fn.parser

abbrev pub decreases-loop-alloc : goal.decreases-loop-alloc
decreases-loop-alloc g l = weight l.parser
