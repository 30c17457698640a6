use Rattle.std.proofs.Common.{◌≡◌}
use Rattle.text_format.specs.declared.lexeme.Lexeme.TheVariants.{Comma}
use Rattle.text_format.specs.declared.class.Class.TheVariants.{Exactly}
use Rattle.text_format.specs.Formats.{weight, many_at, ◌▸◌}
use Rattle.text_format.proofs.Loops.{with_front, list_at}
use Rattle.text_format.proofs.node.list_with_close.Given as goal

abbrev pub invariant-loop-alloc : goal.invariant-loop-alloc
invariant-loop-alloc g l = with_front l.items (many_at (Exactly Comma) (Comma ▸ g.N.Tree.format) l.parser) ≡ list_at g.N.Tree.format l.fn.parser

abbrev pub decreases-loop-alloc : goal.decreases-loop-alloc
decreases-loop-alloc g l = weight l.parser
