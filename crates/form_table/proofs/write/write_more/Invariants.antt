use Rattle.std.proofs.Common.{◌≡◌, ◌++◌, drop}
use Rattle.form_table.specs.Texts.{more_text}
use Rattle.form_table.proofs.write.write_more.Given as goal

abbrev pub invariant-loop-word : goal.invariant-loop-word
invariant-loop-word l = l.out.items ++ more_text (drop l.word-index l.words) ≡ l.fn.out.items ++ more_text l.words
