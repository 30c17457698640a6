use Rattle.std.proofs.Common.{◌≡◌, ◌++◌, drop}
use Rattle.mlir_ir.specs.Count.{idx_values}
use Rattle.use_counts.proofs.operands.push_indices.Given as goal

abbrev pub invariant-loop-i : goal.invariant-loop-i
invariant-loop-i l = l.out.items ++ idx_values (drop l.i-index l.list) ≡ l.fn.out.items ++ idx_values l.list
