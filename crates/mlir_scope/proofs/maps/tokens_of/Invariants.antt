use Rattle.std.proofs.Common.{◌≡◌, ◌∷◌, map, take}
use Rattle.mlir_scope.proofs.maps.tokens_of.Given as goal

abbrev pub invariant-loop-piece : goal.invariant-loop-piece
invariant-loop-piece l = l.found ≡ l.written.keyword ∷ l.written.less ∷ map (λ p. p.token) (take l.piece-index l.written.tokens)
