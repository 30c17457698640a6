-- Operations that differ in their own numbers alone.
use Rattle.std.proofs.Common.{◌≡◌, List, [], ◌∷◌, refl}
use Rattle.mlir_ir.specs.declared.tree.Op.{Op}
use Rattle.mlir_meaning.specs.Meaning.{kind_meaning, run}
use Rattle.mlir_meaning.specs.States.{State, then_goes}

-- the same results and kinds, one by one
abbrev pub AreAlike : List Op → List Op → Type 0
AreAlike [] [] = Unit {0}
AreAlike (o ∷ os) (q ∷ qs) = (q.results ≡ o.results) × (q.kind ≡ o.kind) × AreAlike os qs
AreAlike _ _ = ⊥

-- they run alike
pub alike_run : (os qs : List Op) → AreAlike os qs → run qs ≡ run os
unfolding run
alike_run [] [] h = refl
alike_run [] (q ∷ qs) h = absurd h
alike_run (o ∷ os) [] h = absurd h
alike_run (o ∷ os) (q ∷ qs) h = λ j. λ (s : State). then_goes (kind_meaning (h.1 j) (h.0 j) s) (alike_run os qs h.2 j)
