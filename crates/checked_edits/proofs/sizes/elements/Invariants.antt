use Rattle.std.proofs.Common.{◌≡◌, ◌≤◌, ◌*◌, ◌^◌, ◌-◌, min, drop}
use Rattle.mlir_verify.specs.Tensors.{elements}
use Rattle.checked_edits.proofs.sizes.elements.Given as goal

abbrev pub invariant-loop-x : goal.invariant-loop-x
invariant-loop-x l = record {
  value : min (l.all * elements (drop l.x-index l.extents)) (2 ^ 64 - 1) ≡ min (elements l.extents) (2 ^ 64 - 1);
  fits : l.all ≤ 2 ^ 64 - 1;
}
