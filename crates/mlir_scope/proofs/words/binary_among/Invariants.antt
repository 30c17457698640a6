use Rattle.std.proofs.Common.{◌≡◌, drop}
use Rattle.mlir_scope.specs.Words.{first_named, binary_text}
use Rattle.mlir_scope.proofs.words.binary_among.Given as goal

abbrev pub invariant-loop-op : goal.invariant-loop-op
invariant-loop-op l = first_named binary_text l.text (drop l.op-index l.ops) ≡ first_named binary_text l.text l.ops
