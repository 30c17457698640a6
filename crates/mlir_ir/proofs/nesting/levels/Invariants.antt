use Rattle.std.proofs.Common.{◌≡◌, ◌≤◌, ◌^◌, ◌-◌, min, max, drop}
use Rattle.mlir_ir.specs.Depth.{module_levels}
use Rattle.mlir_ir.proofs.nesting.levels.Given as goal

abbrev pub invariant-loop-f : goal.invariant-loop-f
invariant-loop-f l =
    (l.most ≤ 2 ^ 64 - 1) × (min (module_levels l.funcs) (2 ^ 64 - 1) ≡ min (max l.most (module_levels (drop l.f-index l.funcs))) (2 ^ 64 - 1))
