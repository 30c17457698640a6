use Rattle.std.proofs.Common.{◌≡◌, ◌++◌, drop, map}
use Rattle.use_counts.proofs.operands.push_starts.Given as goal

abbrev pub invariant-loop-c : goal.invariant-loop-c
invariant-loop-c l = l.out.items ++ map (λ c. c.2) (drop l.c-index l.list) ≡ l.fn.out.items ++ map (λ c. c.2) l.list
