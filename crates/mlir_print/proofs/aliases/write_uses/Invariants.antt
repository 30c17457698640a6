use Rattle.std.proofs.Common.{◌≡◌, ◌++◌, [], drop}
use Rattle.mlir_print.specs.MapParts.{uses_text}
use Rattle.mlir_print.proofs.aliases.write_uses.Given as goal

abbrev pub invariant-loop-map : goal.invariant-loop-map
invariant-loop-map l = l.out.items ++ uses_text l.aliases l.before (drop l.map-index l.maps) ≡ l.fn.out.items ++ uses_text l.aliases [] l.maps
