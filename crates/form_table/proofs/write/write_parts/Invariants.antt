use Rattle.std.proofs.Common.{◌≡◌, ◌++◌, drop}
use Rattle.form_table.specs.Texts.{bytes_at}
use Rattle.form_table.proofs.write.write_parts.Given as goal

abbrev pub invariant-loop-want : goal.invariant-loop-want
invariant-loop-want l = l.out.items ++ bytes_at (drop l.want-index l.wants) l.left_out (drop l.taken l.fields) ≡ l.fn.out.items ++ bytes_at l.wants 0 l.fields
