-- Operations at a place may be replaced by others that have the same effect in each state that comes to it.
use Rattle.std.proofs.Common.{◌≡◌, ℕ, Bool, true, List, ◌∷◌, ◌++◌, refl, sym, subst}
use Rattle.mlir_ir.specs.declared.tree.Op.{Op}
use Rattle.mlir_ir.specs.declared.tree.ValueId.{ValueId}
use Rattle.mlir_meaning.specs.States.{State, Outcome, Goes, Ends, Fails, then_goes}
use Rattle.mlir_meaning.specs.Loops.{for_state, forall_state, for_meaning, forall_meaning}
use Rattle.mlir_meaning.specs.Meaning.{kind_meaning, run, initial_state, meaning}
use Rattle.mlir_meaning.specs.Contexts.{for_op, forall_op, Context, Here, InFor, InForall, plug, Reaches}
use Rattle.mlir_meaning.specs.Names.{AreIn, OpsReadOnly, OpsDefineOnly, AlikeThrough, AlikeOn}
use Rattle.mlir_meaning.specs.Renaming.{reused_ops, reused_after}
use Rattle.mlir_meaning.specs.Replacement.{for_operands, forall_operands, AfterReadsOnly, AfterDefinesOnly, StandsAlone}
use Rattle.mlir_meaning.specs.Laws.{OneStateReplacement}
use Rattle.mlir_meaning.proofs.Bodies.{meaning-for, meaning-forall}
use Rattle.mlir_meaning.proofs.Defining.{each_any}
use Rattle.mlir_meaning.proofs.Frame.{reused_alike}
use Rattle.mlir_meaning.proofs.Identity.{same}
use Rattle.mlir_meaning.proofs.Replaced.{SameEnd, same_answer, ends_through, then_end, for_same, forall_same}
use Rattle.mlir_meaning.proofs.Runs.{run-append}
use Rattle.mlir_meaning.proofs.States.{all, one_state, same_states}

all_in : (vs : List ValueId) → AreIn all vs
all_in = each_any (λ (v : ValueId). all v.0 ≡ true) (λ v. refl)

same_end : (p : Outcome) → SameEnd p p
same_end (Goes s) = refl
same_end (Ends ds) = refl
same_end (Fails x) = refl

then_same : (p : Outcome) (g h : State → Outcome) → ((u : State) → p ≡ Goes u → SameEnd (g u) (h u)) → SameEnd (then_goes p g) (then_goes p h)
then_same (Goes u) g h k = k u refl
then_same (Ends ds) g h k = refl
then_same (Fails x) g h k = refl

-- what ends alike after the front of a body
after_front : (before xs ys : List Op) (s : State) → ((u : State) → run before s ≡ Goes u → SameEnd (run xs u) (run ys u)) → SameEnd (run (before ++ xs) s) (run (before ++ ys) s)
after_front before xs ys s k =
    subst (λ p. SameEnd p (run (before ++ ys) s)) (sym (run-append before xs s))
    (subst (SameEnd (then_goes (run before s) (run xs))) (sym (run-append before ys s)) (then_same (run before s) (run xs) (run ys) k))

-- a loop of the same effect
around : (o o' : Op) (after : List Op) (u : State) → AlikeOn all (kind_meaning o.kind o.results u) (kind_meaning o'.kind o'.results u) → SameEnd (run (o ∷ after) u) (run (o' ∷ after) u)
unfolding run
around o o' after u like = then_end all same _ _ (run after) (run after) like (λ x y e a. subst (λ z. SameEnd (run after x) (run after z)) (same_states x y a) (same_end (run after x)))

module _ (N : ℕ → Bool) (f : ℕ → ℕ) (old new : List Op) where
  here : (after : List Op) (u : State) → OpsReadOnly N after → OpsDefineOnly (StandsAlone N f) after → AlikeThrough N f (run old u) (run new u) →
      SameEnd (run (old ++ after) u) (run (new ++ reused_ops f after) u)
  here after u read alone like =
      subst (λ p. SameEnd p (run (new ++ reused_ops f after) u)) (sym (run-append old after u))
      (subst (SameEnd (then_goes (run old u) (run after))) (sym (run-append new (reused_ops f after) u))
      (then_end N f _ _ (run after) (run (reused_ops f after)) like (λ x y e a. ends_through N f _ _ (reused_alike N f after x y read alone a))))

  pub replaced_here : (k : Context) (s : State) → AfterReadsOnly N k → AfterDefinesOnly (StandsAlone N f) k →
      ((u : State) → Reaches k old s u → AlikeThrough N f (run old u) (run new u)) → SameEnd (run (plug k old) s) (run (plug (reused_after f k) new) s)
  replaced_here (Here before after) s read alone local = after_front before (old ++ after) (new ++ reused_ops f after) s (λ u e. here after u read alone (local u e))
  replaced_here (InFor before l inner after) s read alone local =
      after_front before (for_op l (plug inner old) ∷ after) (for_op l (plug (reused_after f inner) new) ∷ after) s
      (λ u e. around (for_op l (plug inner old)) (for_op l (plug (reused_after f inner) new)) after u
      (subst (λ o. AlikeOn all o (kind_meaning (for_op l (plug (reused_after f inner) new)).kind l.results u)) (λ i. sym (meaning-for l.head (plug inner old)) i l.results u)
      (subst (AlikeOn all (for_meaning l.head (run (plug inner old)) l.results u)) (λ i. sym (meaning-for l.head (plug (reused_after f inner) new)) i l.results u)
      (for_same all (run (plug inner old)) (run (plug (reused_after f inner) new)) l.results u u (one_state u) l.head (all_in (for_operands l.head))
      (λ m es b. replaced_here inner (for_state u l.head m es) read alone (λ x r. local x (u, e, m, es, b, r)))))))
  replaced_here (InForall before l inner after) s read alone local =
      after_front before (forall_op l (plug inner old) ∷ after) (forall_op l (plug (reused_after f inner) new) ∷ after) s
      (λ u e. around (forall_op l (plug inner old)) (forall_op l (plug (reused_after f inner) new)) after u
      (subst (λ o. AlikeOn all o (kind_meaning (forall_op l (plug (reused_after f inner) new)).kind l.results u)) (λ i. sym (meaning-forall l.head (plug inner old)) i l.results u)
      (subst (AlikeOn all (forall_meaning l.head (run (plug inner old)) l.results u)) (λ i. sym (meaning-forall l.head (plug (reused_after f inner) new)) i l.results u)
      (forall_same all (run (plug inner old)) (run (plug (reused_after f inner) new)) l.results u u (one_state u) l.head (all_in (forall_operands l.head))
      (λ p b. replaced_here inner (forall_state u l.head p) read alone (λ x r. local x (u, e, p, b, r)))))))

pub one_state_replacement : OneStateReplacement
unfolding meaning
one_state_replacement N f k old new func inputs read alone local =
    sym (same_answer _ _ (replaced_here N f old new k (initial_state func.params inputs) read alone local))
