use Rattle.std.proofs.Common.{◌≡◌, drop}
use Rattle.mlir_edits.specs.Places.{place_from}
use Rattle.mlir_edits.proofs.place.place_of.Given as goal

abbrev pub invariant-loop-k : goal.invariant-loop-k
invariant-loop-k l = place_from l.k l.id (drop l.k l.m.funcs) ≡ place_from 0 l.id l.m.funcs
