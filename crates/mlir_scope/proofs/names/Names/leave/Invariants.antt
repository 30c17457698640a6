use Rattle.std.proofs.Common.{◌≡◌, ◌≤◌, take, length}
use Rattle.mlir_scope.proofs.names.Names.leave.Given as goal

abbrev pub invariant-loop-self : goal.invariant-loop-self
invariant-loop-self l = record { front : take l.count l.self ≡ take l.count l.fn.self; within : l.count ≤ length l.self }

abbrev pub decreases-loop-self : goal.decreases-loop-self
decreases-loop-self l = length l.self
