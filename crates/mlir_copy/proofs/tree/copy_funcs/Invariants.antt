use Rattle.std.proofs.Common.{◌≡◌, take}
use Rattle.mlir_copy.proofs.tree.copy_funcs.Given as goal

abbrev pub invariant-loop-f : goal.invariant-loop-f
invariant-loop-f l = l.copies ≡ take l.f-index l.funcs
