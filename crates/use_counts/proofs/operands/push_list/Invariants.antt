use Rattle.std.proofs.Common.{◌≡◌, ◌++◌, drop}
use Rattle.use_counts.proofs.operands.push_list.Given as goal

abbrev pub invariant-loop-v : goal.invariant-loop-v
invariant-loop-v l = l.out.items ++ drop l.v-index l.list ≡ l.fn.out.items ++ l.list
