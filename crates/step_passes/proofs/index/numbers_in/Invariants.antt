use Rattle.std.proofs.Common.{take}
use Rattle.mlir_verify.specs.Scope.{IsSet}
use Rattle.step_passes.specs.Sequences.{numbers_of}
use Rattle.step_passes.proofs.index.numbers_in.Given as goal

abbrev pub invariant-loop-op : goal.invariant-loop-op
invariant-loop-op l = IsSet l.numbers (numbers_of (take l.op-index l.ops))
