use Rattle.std.proofs.Common.{◌≡◌, replicate}
use Rattle.mlir_resolve.proofs.dense.repeated.Given as goal

abbrev pub invariant-loop-turn : goal.invariant-loop-turn
invariant-loop-turn l = l.cells ≡ replicate l._turn l.cell
