use Rattle.std.proofs.Common.{◌≡◌, drop}
use Rattle.mlir_lex.specs.Chain.{each}
use Rattle.mlir_scope.specs.Maps.{map_of}
use Rattle.mlir_lex.proofs.Loops.{onto}
use Rattle.mlir_resolve.proofs.generics.read_maps.Given as goal

abbrev pub invariant-loop-used : goal.invariant-loop-used
invariant-loop-used l = onto l.found (each (map_of l.aliases) (drop l.used-index l.uses)) ≡ each (map_of l.aliases) l.uses
