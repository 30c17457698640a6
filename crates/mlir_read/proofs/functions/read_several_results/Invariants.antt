use Rattle.std.proofs.Common.{◌≡◌, ◌+◌, ◌≤◌, ◌∷◌, drop, map}
use Rattle.mlir_read.specs.Resolve.{results_from}
use Rattle.mlir_lex.proofs.Loops.{onto}
use Rattle.mlir_read.proofs.functions.read_several_results.Given as goal

abbrev pub invariant-loop-next : goal.invariant-loop-next
invariant-loop-next l =
    record { found : onto l.found (results_from l.number (map (λ n. n.ty) (drop l.next-index l.several.more))) ≡ results_from 0 (l.several.first ∷ l.several.second ∷ map (λ n. n.ty) l.several.more); number : l.number ≡ 2 + l.next-index; few : l.number ≤ 16 }
