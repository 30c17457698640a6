-- Operations run alike in states that agree on what they read, and in states that agree on it through a renaming of uses.
use Rattle.std.proofs.Common.{◌≡◌, ℕ, ◌+◌, ◌==◌, Bool, true, false, not, List, [], ◌∷◌, refl, sym, ◌∙◌, subst, cond, arith}
use Rattle.std.proofs.lemmas.List.Sums.{sum_by-cons}
use Rattle.mlir_ir.specs.Count.{operands, names, uses_kind, uses_row, uses_op}
use Rattle.mlir_ir.specs.declared.tree.Op.{Op}
use Rattle.mlir_ir.specs.declared.tree.ValueId.{ValueId}
use Rattle.mlir_ir.specs.declared.tree.OpKind.{OpKind, For', Forall', Row_of-Op, end_of-Op, more_of-Op}
use Rattle.mlir_meaning.specs.States.{State, Outcome, Goes, Ends, Fails}
use Rattle.mlir_meaning.specs.Meaning.{run}
use Rattle.mlir_meaning.specs.Names.{AreIn, ReadsOnly, RowReadsOnly, OpsReadOnly, OpsDefineOnly, SameThrough, AlikeThrough, AlikeOn}
use Rattle.mlir_meaning.specs.Renaming.{reused_ops}
use Rattle.mlir_meaning.specs.Replacement.{StandsAlone}
use Rattle.mlir_meaning.specs.Laws.{RunsAlike, RunsAlikeUnused, all_but}
use Rattle.mlir_meaning.proofs.Defining.{each_any, ops_any, ops_more}
use Rattle.mlir_meaning.proofs.Identity.{same, values-id, ops-id}
use Rattle.mlir_meaning.proofs.Through.{Lasts, Agree, Alike, through_run}

-- uses are renamed by f, and definitions keep their numbers
module _ (N : ℕ → Bool) (f : ℕ → ℕ) where
  pub agree : (s t : State) → SameThrough N f s t → Agree N same f same s t
  agree s t a = record {
    values = a.values;
    shared = values-id s.shared ∙ a.shared;
    apart = each_any _ (λ v w read. refl) s.shared;
    inserts = a.inserts;
  }

  pub agreed : (s t : State) → Agree N same f same s t → SameThrough N f s t
  agreed s t a = record { values = a.values; shared = sym (values-id s.shared) ∙ a.shared; inserts = a.inserts }

  pub alike : (o p : Outcome) → AlikeThrough N f o p → Alike N same f same o p
  alike (Goes s) (Goes t) a = agree s t a
  alike (Ends ds) (Ends es) a = a
  alike (Fails x) (Fails y) a = a
  alike (Goes s) (Ends es) a = absurd a
  alike (Goes s) (Fails y) a = absurd a
  alike (Ends ds) (Goes t) a = absurd a
  alike (Ends ds) (Fails y) a = absurd a
  alike (Fails x) (Goes t) a = absurd a
  alike (Fails x) (Ends es) a = absurd a

  pub aliked : (o p : Outcome) → Alike N same f same o p → AlikeThrough N f o p
  aliked (Goes s) (Goes t) a = agreed s t a
  aliked (Ends ds) (Ends es) a = a
  aliked (Fails x) (Fails y) a = a
  aliked (Goes s) (Ends es) a = absurd a
  aliked (Goes s) (Fails y) a = absurd a
  aliked (Ends ds) (Goes t) a = absurd a
  aliked (Ends ds) (Fails y) a = absurd a
  aliked (Fails x) (Goes t) a = absurd a
  aliked (Fails x) (Ends es) a = absurd a

  -- operations whose uses are renamed
  pub reused_alike : (os : List Op) (s t : State) → OpsReadOnly N os → OpsDefineOnly (StandsAlone N f) os → SameThrough N f s t → AlikeThrough N f (run os s) (run (reused_ops f os) t)
  reused_alike os s t read alone a =
      aliked _ _ (through_run N same f same os s t read (ops_more (StandsAlone N f) (Lasts N same f same) (λ v h. (h, λ w r. refl)) os alone) (agree s t a))

pub frame : RunsAlike
frame N os s t read a =
    subst (λ ps. AlikeOn N (run os s) (run ps t)) (ops-id os) (reused_alike N same os s t read (ops_any (StandsAlone N same) (λ v w r. refl) os) a)

-- UNUSED VALUES
module _ (v : ValueId) where
  none_named : (vs : List ValueId) → names v vs ≡ 0 → AreIn (all_but v) vs
  none_named [] h = tt
  none_named (w ∷ ws) h = one (w.0 == v.0) (none_named ws) (sym (sum_by-cons (λ (x : ValueId). cond (x.0 == v.0) 1 0) w ws) ∙ h)
    where
      one : (b : Bool) → (names v ws ≡ 0 → AreIn (all_but v) ws) → cond b 1 0 + names v ws ≡ 0 → (not b ≡ true) × AreIn (all_but v) ws
      one true rest e = absurd (omega arith)
      one false rest e = (refl, rest (omega arith))

  left_zero : (m n : ℕ) → m + n ≡ 0 → m ≡ 0
  left_zero m n h = omega arith

  right_zero : (m n : ℕ) → m + n ≡ 0 → n ≡ 0
  right_zero m n h = omega arith

  mutual
    unfolding ReadsOnly

    unused : (kind : OpKind) → uses_kind v kind ≡ 0 → ReadsOnly (all_but v) kind
    unused (For' i l u s c shape row) h = (none_named (operands (For' i l u s c shape row)) (left_zero _ _ h), unused_row row (right_zero _ _ h))
    unused (Forall' i l u s c shape row) h = (none_named (operands (Forall' i l u s c shape row)) (left_zero _ _ h), unused_row row (right_zero _ _ h))
    unused kind h = none_named (operands kind) h

    unused_row : {n : _} (row : Row_of-Op n) → uses_row v row ≡ 0 → RowReadsOnly (all_but v) row
    unused_row end_of-Op h = tt
    unused_row (more_of-Op id rs kind rest) h = (unused kind (left_zero _ _ h), unused_row rest (right_zero _ _ h))

  unused_ops : (os : List Op) → uses_op v os ≡ 0 → OpsReadOnly (all_but v) os
  unused_ops [] h = tt
  unused_ops (o ∷ os) h =
      let e : uses_kind v o.kind + uses_op v os ≡ 0 = sym (sum_by-cons (λ (o : Op). uses_kind v o.kind) o os) ∙ h in
      (unused o.kind (left_zero _ _ e), unused_ops os (right_zero _ _ e))

pub frame_unused : RunsAlikeUnused
frame_unused v os s t h a = frame (all_but v) os s t (unused_ops v os h) a
