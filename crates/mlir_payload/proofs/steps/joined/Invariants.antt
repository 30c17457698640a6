use Rattle.std.proofs.Common.{◌≡◌, ◌++◌, take}
use Rattle.mlir_payload.proofs.steps.joined.Given as goal

abbrev pub invariant-loop-arg : goal.invariant-loop-arg
invariant-loop-arg l = l.all ≡ l.fn.first ++ take l.arg-index l.more
