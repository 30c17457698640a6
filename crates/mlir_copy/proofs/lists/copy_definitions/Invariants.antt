use Rattle.std.proofs.Common.{◌≡◌, take}
use Rattle.mlir_copy.proofs.lists.copy_definitions.Given as goal

abbrev pub invariant-loop-d : goal.invariant-loop-d
invariant-loop-d l = l.copies ≡ take l.d-index l.definitions
