use Rattle.std.proofs.Common.{◌≡◌, ◌++◌, drop}
use Rattle.form_table.specs.Texts.{dense_text}
use Rattle.form_table.proofs.write.write_dense.Given as goal

abbrev pub invariant-loop-token : goal.invariant-loop-token
invariant-loop-token l = l.out.items ++ dense_text (drop l.token-index l.tokens) ≡ l.fn.out.items ++ dense_text l.tokens
