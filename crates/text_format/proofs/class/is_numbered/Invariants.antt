use Rattle.std.proofs.Common.{◌≡◌, drop}
use Rattle.text_format.specs.Classes.{is_numbered}
use Rattle.text_format.proofs.class.is_numbered.Given as goal

abbrev pub invariant-loop-b : goal.invariant-loop-b
invariant-loop-b l = is_numbered (drop l.b-index l.text) ≡ is_numbered l.text
