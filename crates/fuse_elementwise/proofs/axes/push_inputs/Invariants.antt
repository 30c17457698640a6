use Rattle.std.proofs.Common.{◌≡◌, ◌++◌, drop}
use Rattle.std.specs.List.{flat_map, zip}
use Rattle.mlir_edits.specs.Places.{scope_before}
use Rattle.mlir_verify.specs.Maps.{operand_axes}
use Rattle.mlir_verify.specs.Place.{type_among}
use Rattle.fuse_elementwise.proofs.axes.push_inputs.Given as goal

abbrev pub invariant-loop-m : goal.invariant-loop-m
invariant-loop-m l =
    l.axes.items ++ flat_map (λ x. operand_axes x.0 (type_among (scope_before l.f l.position) (x.1).0)) (zip (drop l.m-index l.maps) l.left)
    ≡ l.fn.axes.items ++ flat_map (λ x. operand_axes x.0 (type_among (scope_before l.f l.position) (x.1).0)) (zip l.maps l.ins)
