use Rattle.std.proofs.Common.{◌≡◌, ◌≤◌, ◌^◌, ◌-◌, min, max, drop}
use Rattle.mlir_ir.specs.Depth.{levels_of}
use Rattle.mlir_ir.proofs.nesting.+levels.Given as goal

abbrev pub invariant-levels_of-loop-op : goal.invariant-levels_of-loop-op
invariant-levels_of-loop-op l =
    (l.most ≤ 2 ^ 64 - 1) × (min (levels_of l.ops) (2 ^ 64 - 1) ≡ min (max l.most (levels_of (drop l.op-index l.ops))) (2 ^ 64 - 1))
