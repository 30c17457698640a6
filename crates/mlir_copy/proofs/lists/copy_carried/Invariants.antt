use Rattle.std.proofs.Common.{◌≡◌, take}
use Rattle.mlir_copy.proofs.lists.copy_carried.Given as goal

abbrev pub invariant-loop-c : goal.invariant-loop-c
invariant-loop-c l = l.copies ≡ take l.c-index l.carried
