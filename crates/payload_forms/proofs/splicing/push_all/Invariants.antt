use Rattle.std.proofs.Common.{◌≡◌, ◌++◌, drop}
use Rattle.payload_forms.proofs.splicing.push_all.Given as goal

abbrev pub invariant-loop-item : goal.invariant-loop-item
invariant-loop-item g l = l.all ++ drop l.item-index l.items ≡ l.fn.all ++ l.items
