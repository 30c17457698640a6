use Rattle.std.proofs.Common.{◌≡◌, ◌+◌, drop}
use Rattle.text_format.specs.Bytes.{run}
use Rattle.text_format.proofs.front.run.Given as goal

abbrev pub invariant-loop-i : goal.invariant-loop-i
invariant-loop-i l = l.i + run l.class (drop l.i l.bytes) ≡ run l.class l.bytes
