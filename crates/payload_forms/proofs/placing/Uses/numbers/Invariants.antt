use Rattle.std.proofs.Common.{◌≡◌, ◌++◌, ◌-◌, map, get_or, drop}
use Rattle.mlir_meaning.specs.Grids.{count_up}
use Rattle.mlir_meaning.specs.Points.{place_of}
use Rattle.payload_forms.proofs.placing.Uses.numbers.Given as goal

abbrev pub invariant-loop-k : goal.invariant-loop-k
invariant-loop-k l =
    let at = map (λ k. get_or l.self.spots (place_of k 0 l.self.seen) 0) in
    l.all ++ at (count_up l.k (l.self.captured - l.k)) ≡ at (count_up 0 l.self.captured)

abbrev pub invariant-loop-n : goal.invariant-loop-n
invariant-loop-n l =
    let at = map (λ k. get_or l.self.spots (place_of k 0 l.self.seen) 0) in
    l.all ++ drop l.n-index l.self.others ≡ at (count_up 0 l.self.captured) ++ l.self.others
