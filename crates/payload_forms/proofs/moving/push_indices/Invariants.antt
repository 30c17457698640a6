use Rattle.std.proofs.Common.{◌≡◌, ◌++◌, ℕ, ℤ, drop, map}
use Rattle.payload_forms.specs.Moved.{index_step}
use Rattle.payload_forms.proofs.moving.push_indices.Given as goal

abbrev pub invariant-loop-term : goal.invariant-loop-term
invariant-loop-term l = l.steps ++ map (λ (t : ℕ × ℤ). index_step t.0) (drop l.term-index l.terms) ≡ l.fn.steps ++ map (λ (t : ℕ × ℤ). index_step t.0) l.terms
