use Rattle.std.proofs.Common.{true}
use Rattle.mlir_scope.proofs.MapsFit.{read_is_map}
use Rattle.mlir_scope.proofs.maps.read_alias.Goals as goal

pub invariant_of-result : goal.invariant_of-result
invariant_of-result c = read_is_map true c.as_slice.result.now c.in_ok-map.map c.in_ok-map.ensures
