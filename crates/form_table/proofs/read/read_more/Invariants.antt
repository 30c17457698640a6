use Rattle.std.proofs.Common.{◌≡◌}
use Rattle.text_format.specs.declared.class.Class.TheVariants.{Exactly}
use Rattle.text_format.specs.declared.lexeme.Lexeme.TheVariants.{Comma}
use Rattle.text_format.specs.Formats.{weight, many_at}
use Rattle.text_format.proofs.Loops.{with_front}
use Rattle.form_table.specs.Entries.{next}
use Rattle.form_table.proofs.read.read_more.Given as goal

abbrev pub invariant-loop-alloc : goal.invariant-loop-alloc
invariant-loop-alloc l = with_front l.entries (many_at (Exactly Comma) (next l.element) l.parser) ≡ many_at (Exactly Comma) (next l.element) l.fn.parser

abbrev pub decreases-loop-alloc : goal.decreases-loop-alloc
decreases-loop-alloc l = weight l.parser
