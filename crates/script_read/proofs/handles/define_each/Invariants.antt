use Rattle.std.proofs.Common.{◌≡◌, drop}
use Rattle.script_read.specs.Scope.{define_each}
use Rattle.script_read.proofs.handles.define_each.Given as goal

abbrev pub invariant-loop-next : goal.invariant-loop-next
invariant-loop-next l = define_each l.scope (drop l.next-index l.names) ≡ define_each l.fn.scope l.names
