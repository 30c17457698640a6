-- What a place asks of the operations around it, so that others may stand there.
use Rattle.std.specs.Prelude.{◌≡◌, ℕ, ◌==◌, Bool, true, List, ◌∷◌, ◌++◌, map}
use Rattle.mlir_ir.specs.Count.{idx_values}
use Rattle.mlir_ir.specs.declared.tree.ValueId.{ValueId}
use Rattle.mlir_meaning.specs.Loops.{ForHead, ForallHead}
use Rattle.mlir_meaning.specs.Contexts.{Context, Here, InFor, InForall}
use Rattle.mlir_meaning.specs.Names.{AreIn, OpsReadOnly, OpsDefineOnly}

abbrev pub for_operands : ForHead → List ValueId
for_operands h = h.lower ∷ h.upper ∷ h.step ∷ map (λ c. c.2) h.carried

abbrev pub forall_operands : ForallHead → List ValueId
forall_operands h = idx_values h.lower ++ idx_values h.upper ++ idx_values h.step ++ map (λ c. c.2) h.shared

-- what stands around the place reads no value but those of the set
abbrev pub AroundReadsOnly : (ℕ → Bool) → Context → Type 0
AroundReadsOnly N (Here before after) = OpsReadOnly N before × OpsReadOnly N after
AroundReadsOnly N (InFor before l inner after) = OpsReadOnly N before × AreIn N (for_operands l.head) × AroundReadsOnly N inner × OpsReadOnly N after
AroundReadsOnly N (InForall before l inner after) =
    OpsReadOnly N before × AreIn N (forall_operands l.head) × AroundReadsOnly N inner × OpsReadOnly N after

-- what follows the place in its own body reads no value but those of the set. What stands before it, and around its loops, may read any.
abbrev pub AfterReadsOnly : (ℕ → Bool) → Context → Type 0
AfterReadsOnly N (Here before after) = OpsReadOnly N after
AfterReadsOnly N (InFor before l inner after) = AfterReadsOnly N inner
AfterReadsOnly N (InForall before l inner after) = AfterReadsOnly N inner

-- it holds of each value that is defined after the place, in its own body
abbrev pub AfterDefinesOnly : (ℕ → Type 0) → Context → Type 0
AfterDefinesOnly D (Here before after) = OpsDefineOnly D after
AfterDefinesOnly D (InFor before l inner after) = AfterDefinesOnly D inner
AfterDefinesOnly D (InForall before l inner after) = AfterDefinesOnly D inner

-- after the renaming, a use names v exactly where it did before
abbrev pub StandsAlone : (ℕ → Bool) → (ℕ → ℕ) → ℕ → Type 0
StandsAlone N f v = (w : ℕ) → N w ≡ true → (f w == v) ≡ (w == v)
