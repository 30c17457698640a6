use Rattle.std.proofs.Common.{◌≡◌, drop}
use Rattle.mlir_lex.specs.Chain.{each}
use Rattle.mlir_lex.proofs.Loops.{onto}
use Rattle.form_resolve.specs.Entries.{next_map, behind}
use Rattle.form_resolve.proofs.held.more_maps.Given as goal

abbrev pub invariant-loop-next : goal.invariant-loop-next
invariant-loop-next l = onto l.found (each (next_map l.aliases) (drop l.next-index l.more)) ≡ behind l.fn.maps (each (next_map l.aliases) l.more)
