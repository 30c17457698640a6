use Rattle.std.proofs.Common.{◌++◌, [], ◌∷◌, take, length, List, ◌≡◌, ◌<◌, ◌+◌, get_or, ℕ, ap, sym, ◌∙◌, arith, append_assoc}
use Rattle.std.proofs.lemmas.List.{map-append}
use Rattle.mlir_ir.specs.declared.tree.Ty.{Ty}
use Rattle.mlir_ir.specs.declared.tree.ValueId.{ValueId}
use Rattle.mlir_verify.specs.Names.{numbers}
use Rattle.mlir_verify.proofs.Adding.{set_at}
use Rattle.mlir_verify.proofs.Checking.{taken}
use Rattle.mlir_verify.proofs.scope.insert_all.Goals as goal

one_more : (ds : List (ValueId × Ty)) (i : ℕ) (d : ValueId × Ty) (known : List ℕ) → i < length ds → d ≡ get_or ds i d → (known ++ numbers (take i ds)) ++ (d.0).0 ∷ [] ≡ known ++ numbers (take (i + 1) ds)
one_more ds i d known h e =
    append_assoc known (numbers (take i ds)) ((d.0).0 ∷ [])
    ∙ sym (ap (λ (l : List ℕ). known ++ l) (ap numbers (taken ds i d h e) ∙ map-append (λ (x : ValueId × Ty). (x.0).0) (take i ds) (d ∷ [])))

pub loop-d-preserved : goal.loop-d-preserved
loop-d-preserved c = λ known h.
    set_at c.insert.new.set _ _ (one_more c.args.definitions.now c.loop-d.d-index c.d-item.result known (omega arith) c.d-item.is)
    (c.in-Ok.ensures (known ++ numbers (take c.loop-d.d-index c.args.definitions.now)) (c.loop-d.invariant known h))
