use Rattle.std.proofs.Common.{◌≡◌, drop}
use Rattle.form_resolve.specs.Entries.{more_types}
use Rattle.form_resolve.proofs.uses.check_types.Given as goal

abbrev pub invariant-loop-next : goal.invariant-loop-next
invariant-loop-next l = more_types l.names (drop l.at l.used) (drop l.next-index l.more) ≡ more_types l.names (drop l.number l.used) l.more
