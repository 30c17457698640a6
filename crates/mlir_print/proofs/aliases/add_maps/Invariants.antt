use Rattle.std.proofs.Common.{◌≡◌, drop}
use Rattle.mlir_print.specs.MapParts.{with_texts}
use Rattle.mlir_print.proofs.aliases.add_maps.Given as goal

abbrev pub invariant-loop-map : goal.invariant-loop-map
invariant-loop-map l = with_texts l.aliases (drop l.map-index l.maps) ≡ with_texts l.fn.aliases l.maps
