use Rattle.std.proofs.Common.{◌≡◌, ◌++◌, [], drop}
use Rattle.script_text.specs.Texts.{quoted_texts}
use Rattle.script_text.proofs.bodies.write_names.Given as goal

abbrev pub invariant-loop-name : goal.invariant-loop-name
invariant-loop-name l = l.out.items ++ quoted_texts l.before (drop l.name-index l.names) ≡ l.fn.out.items ++ quoted_texts [] l.names
