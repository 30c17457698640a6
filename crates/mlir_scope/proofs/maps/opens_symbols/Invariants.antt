use Rattle.std.proofs.Common.{◌≡◌, drop}
use Rattle.mlir_scope.specs.Maps.{symbols_behind, has_symbols}
use Rattle.mlir_scope.proofs.maps.opens_symbols.Given as goal

abbrev pub invariant-loop-token : goal.invariant-loop-token
invariant-loop-token l = symbols_behind l.open (drop l.token-index l.tokens) ≡ has_symbols l.tokens
