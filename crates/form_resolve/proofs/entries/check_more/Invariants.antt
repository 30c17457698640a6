use Rattle.std.proofs.Common.{◌≡◌, drop}
use Rattle.form_resolve.specs.Entries.{more_repeated}
use Rattle.form_resolve.proofs.entries.check_more.Given as goal

abbrev pub invariant-loop-next : goal.invariant-loop-next
invariant-loop-next l = more_repeated l.wanted l.left (drop l.next-index l.more) ≡ more_repeated l.wanted l.count l.more
